-- What the answer to a next record says of the capture with it.
use Rattle.std.proofs.Common.{◌≡◌, refl, ap, ◌∙◌, List, ◌∷◌, length, Some, None, Ok, Err}
use Rattle.capture_form.specs.declared.records.Record.{Record}
use Rattle.capture_form.specs.Rules.{RuleSet}
use Rattle.trace_events.specs.Event.{Event}
use Rattle.trace_events.specs.History.{judge, history}
use Rattle.trace_events.specs.declared.clause.Clause.{Clause}
use Rattle.trace_events.specs.Clauses.{first_broken}
use Rattle.state_tables.specs.Connections.{IsLawfulNext}
use Rattle.state_ledger.specs.NextEvents.{IsAnswer}

module _ (rules : RuleSet) (records : List Record) (r : Record) (lawful : first_broken rules (history rules records) ≡ None) where
  -- with its event the capture is lawful
  pub answer-lawful : (e : Event) → IsAnswer rules (history rules records) r (Ok e) → IsLawfulNext rules records r e
  answer-lawful e answer =
      let unbroken = answer.1 in
      (answer.0, ap (λ (x : Event). first_broken rules (x ∷ history rules records)) answer.0 ∙ rw (lawful, unbroken) refl)

  -- or the record is its first that breaks a clause
  pub answer-broken : (clause : Clause) → IsAnswer rules (history rules records) r (Err clause)
      → first_broken rules (judge rules (history rules records) r ∷ history rules records) ≡ Some (length (history rules records), clause)
  answer-broken clause broken = rw (lawful, broken) refl
