-- What was carried before on a link is told by tables that keep what the last delivery there carries.
use Rattle.std.proofs.Common.{◌≡◌, refl, sym, ap, ◌∙◌, ℕ, Bool, true, false, List, [], ◌∷◌, Option, Some, None, find, option_and_then, option_map, if◌then◌else◌, ◌==◌, eqb-true}
use Rattle.capture_form.specs.Rules.{RuleSet}
use Rattle.trace_events.specs.Words.{is_some_and, where_passes}
use Rattle.trace_events.specs.Event.{Event, Link, Incoming, Outgoing}
use Rattle.trace_events.specs.Incoming.{incoming_at, incoming_deliveries}
use Rattle.trace_events.specs.Outgoing.{is_on, noted, outgoing_deliveries}
use Rattle.trace_events.proofs.Along.{and_then_some}
use Rattle.trace_events.proofs.Judged.{AreJudged}
use Rattle.trace_events.specs.Clauses.{first_broken}
use Rattle.trace_events.specs.TransferClause.{carried_before}
use Rattle.state_tables.specs.LetGo.{is_let_go, names_let_go}
use Rattle.state_incoming.specs.EntryAnswers.{delivery_in}
use Rattle.state_incoming.specs.Held.{Held, held, is_held}
use Rattle.state_incoming.specs.HeldTables.{AreHeld}
use Rattle.state_incoming.specs.declared.deliveries.Deliveries.{Deliveries}
use Rattle.state_incoming.proofs.CarriedHeld.{carried-of, entry-at}
use Rattle.state_incoming.proofs.OverKnown.{table-none}
use Rattle.state_outgoing.specs.LastBegun.{is_last_let_go}

found-passes : {A : Type 0} (test : A → Bool) (xs : List A) (x : A) → find test xs ≡ Some x → test x ≡ true
found-passes test [] x found = absurd cc
found-passes test (y ∷ ys) x found = by (test y) refl found (found-passes test ys x)
  where
    by : (b : Bool) → test y ≡ b → (if b then Some y else find test ys) ≡ Some x → (find test ys ≡ Some x → test x ≡ true) → test x ≡ true
    by true is here later = let same : y ≡ x = cc in ap test (sym same) ∙ is
    by false is there later = later there

same_some : {A : Type 0} (a b : A) → Some a ≡ Some b → a ≡ b
same_some a b is = cc

module _ (rules : RuleSet) (past : List Event) (are : AreJudged rules past) (lawful : first_broken rules past ≡ None) (table : Deliveries) (were : AreHeld rules table past)
    (l : Link) (stays : is_last_let_go table.let_go.items l.number past ≡ false) where
  -- what the last one on the link carries was not let go
  carried-stays : (j : Outgoing) → find (is_on l) (outgoing_deliveries past) ≡ Some j → names_let_go table.let_go.items j.note ≡ false
  carried-stays j last = sym (ap (λ o. is_some_and o (λ (k : Outgoing). names_let_go table.let_go.items k.note)) last) ∙ stays

  -- so the table tells of it by its number
  pub before-last : (o : Option ℕ) → option_and_then (λ n. incoming_at n past) o ≡ carried_before l past → option_and_then (delivery_in table) o ≡ carried_before l past
  before-last None is = is
  before-last (Some n) is = by (carried_before l past) refl
    where
      by : (o : Option Incoming) → carried_before l past ≡ o → delivery_in table n ≡ carried_before l past
      by None none =
          ap (option_map (λ (x : Held). x.delivery))
          (table-none rules past table were n (ap (λ o. option_map (held rules past) (where_passes (is_held rules past) o)) (is ∙ none)))
          ∙ sym none
      by (Some d) some =
          let step = and_then_some (λ (j : Outgoing). noted j.note past) (find (is_on l) (outgoing_deliveries past)) d some in
          let c = carried-of rules past are lawful (is_on l) step.0 step.1 in
          let same : c.delivery ≡ d = same_some c.delivery d (sym (ap (λ note. noted note past) c.named ∙ c.at) ∙ step.2) in
          let number : d.number ≡ n = eqb-true d.number n (found-passes (λ (x : Incoming). x.number == n) (incoming_deliveries past) d (is ∙ some)) in
          let own : c.delivery.number ≡ n = ap (λ (x : Incoming). x.number) same ∙ number in
          let there : is_let_go table.let_go.items n ≡ false =
          ap (is_let_go table.let_go.items) (sym own) ∙ (sym (ap (names_let_go table.let_go.items) c.named) ∙ carried-stays step.0 step.1) in
          ap (option_map (λ (x : Held). x.delivery))
          (entry-at rules past are lawful table were n d (is ∙ some) (ap (is_held rules past) (sym same) ∙ c.is) there)
          ∙ sym some
