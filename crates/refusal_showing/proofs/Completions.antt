-- The record that completed a delivery which the table can tell of.
use Rattle.std.proofs.Common.{◌≡◌, sym, ap, ◌∙◌, ℕ, List, Option, Some, None, option_map}
use Rattle.capture_form.specs.Rules.{RuleSet}
use Rattle.trace_events.specs.Event.{Event, Incoming}
use Rattle.trace_events.specs.Incoming.{completion}
use Rattle.state_incoming.specs.Held.{Held, IsEntry, held_at}
use Rattle.state_incoming.specs.HeldTables.{AreHeld, held_in}
use Rattle.state_incoming.specs.EntryAnswers.{Knows}
use Rattle.state_incoming.specs.declared.deliveries.Deliveries.{Deliveries}
use Rattle.state_incoming.proofs.OverKnown.{table-law}

some-apart : (d : Incoming) → None ≡ Some d → ⊥
some-apart d e = cc

some-same : (x d : Incoming) → Some x ≡ Some d → x ≡ d
some-same x d e = cc

module _ (rules : RuleSet) (past : List Event) (table : Deliveries) (are : AreHeld rules table past) (d : Incoming) (knows : Knows table d) where
  -- it has an entry
  pub has_entry : None ≡ held_in table d.number → ⊥
  has_entry is = some-apart d (ap (λ (o : Option Held). option_map (λ (x : Held). x.delivery) o) is ∙ knows)

  -- what the entry says of its own delivery is said of this one
  pub completion_known : (x : Held) (r : Option ℕ) → Some x ≡ held_in table d.number → (IsEntry rules past x → r ≡ completion x.delivery past) → r ≡ completion d past
  completion_known x r is says =
      let same : x.delivery ≡ d = some-same x.delivery d (ap (λ (o : Option Held). option_map (λ (y : Held). y.delivery) o) is ∙ knows) in
      let entry : IsEntry rules past x = ap (λ (y : Incoming). held_at rules y.number past) same ∙ table-law rules past table are d.number x (sym is) in
      says entry ∙ ap (λ (y : Incoming). completion y past) same
