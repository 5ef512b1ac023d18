-- Of an entry that is spent nothing can come any more, once all copies have their verdicts and what carries it is finished.
use Rattle.std.proofs.Common.{◌≡◌, refl, sym, ap, ◌∙◌, ℕ, Bool, true, false, List, Option, None, Some, if◌then◌else◌}
use Rattle.std.specs.Prelude.{Contains}
use Rattle.capture_form.specs.Rules.{RuleSet}
use Rattle.trace_events.specs.Words.{is_some_and, where_passes}
use Rattle.trace_events.specs.Event.{Event, Incoming, Outgoing}
use Rattle.trace_events.specs.Incoming.{incoming_at}
use Rattle.trace_events.specs.Outgoing.{names, outgoing_deliveries}
use Rattle.trace_events.proofs.Judged.{AreJudged}
use Rattle.trace_events.specs.Clauses.{first_broken}
use Rattle.trace_events.proofs.OneConsumer.{some-and}
use Rattle.state_tables.specs.LetGo.{is_let_go}
use Rattle.state_incoming.specs.Held.{Held, held_at}
use Rattle.state_incoming.specs.HeldTables.{AreHeld, held_in}
use Rattle.state_incoming.specs.LetGo.{HasAllCopies, IsOver, is_finished, is_spent}
use Rattle.state_incoming.specs.declared.deliveries.Deliveries.{Deliveries}
use Rattle.state_incoming.proofs.HeldAnswers.{IsHeldOf, held-of}
use Rattle.state_incoming.proofs.OverKnown.{kept-law, table-law}
use Rattle.state_incoming.proofs.OverLasts.{over-now}

-- whoever passes at a place is the one who is there
pub at-place : (f : ℕ → Bool) (o : Option ℕ) (m n : ℕ) → Some m ≡ where_passes f o → o ≡ Some n → m ≡ n
at-place f o m n is at = by (f n) (is ∙ ap (where_passes f) at)
  where
    by : (b : Bool) → Some m ≡ (if b then Some n else None) → m ≡ n
    by true is = cc
    by false is = absurd cc

pub placed : (f : ℕ → Bool) (o : Option ℕ) (m : ℕ) → Some m ≡ where_passes f o → o ≡ Some m
placed f None m is = absurd cc
placed f (Some n) m is = ap Some (sym (at-place f (Some n) m n is refl))

-- where nobody passes there, whoever is there does not
pub nobody-passes : (f : ℕ → Bool) (o : Option ℕ) (n : ℕ) → ◌≡◌ {A = Option ℕ} None (where_passes f o) → o ≡ Some n → f n ≡ true → true ≡ false
nobody-passes f o n is at passes = by (f n) (is ∙ ap (where_passes f) at) passes
  where
    by : (b : Bool) → ◌≡◌ {A = Option ℕ} None (if b then Some n else None) → b ≡ true → true ≡ false
    by true is passes = absurd cc
    by false is passes = absurd cc

-- no table let it go
pub spent-kept : (rules : RuleSet) (past : List Event) (table : Deliveries) → AreHeld rules table past → (n : ℕ) → is_some_and (held_in table n) is_spent ≡ true
    → (gone : List (ℕ × Unit {0})) → gone ≡ table.let_go.items → is_let_go gone n ≡ false
spent-kept rules past table were n spent gone alike =
    let one = some-and (held_in table n) is_spent spent in
    ap (λ (items : List (ℕ × Unit {0})). is_let_go items n) alike ∙ (kept-law (is_let_go table.let_go.items n) (held_at rules n past) one.0 (sym (were n) ∙ one.1)).0

module _ (rules : RuleSet) (past : List Event) (are : AreJudged rules past) (lawful : first_broken rules past ≡ None) (table : Deliveries) (were : AreHeld rules table past) (n : ℕ)
    (spent : is_some_and (held_in table n) is_spent ≡ true) where
  pub found : (x : Held) × (held_in table n ≡ Some x) × (is_spent x ≡ true)
  found = some-and (held_in table n) is_spent spent

  -- its delivery
  abbrev pub own : Incoming
  own = found.0.delivery

  of : IsHeldOf rules n past found.0
  of = held-of rules n past found.0 (table-law rules past table were n found.0 found.1)

  pub own-at : incoming_at n past ≡ Some own
  own-at = of.at

  pub over : HasAllCopies rules own past → ((j : Outgoing) → Contains (outgoing_deliveries past) j → names n j.note ≡ true → is_finished past j ≡ true) → IsOver rules n past
  over copied done = over-now rules past are lawful table were n found.0 found.1 found.2 copied done
