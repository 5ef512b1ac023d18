-- One record more, behind those for which the state stands.
use Rattle.std.proofs.Common.{◌≡◌, refl, sym, ap, subst, ◌∙◌, ℕ, List, [], ◌∷◌, ◌++◌, length, None, Result, Ok, Err, OnOk}
use Rattle.capture_form.specs.declared.records.Record.{Record}
use Rattle.capture_form.specs.Rules.{RuleSet}
use Rattle.trace_events.specs.Event.{Event}
use Rattle.trace_events.specs.History.{judge, history, moment_of}
use Rattle.trace_events.specs.Clauses.{first_broken}
use Rattle.trace_events.proofs.Lawful.{history-push}
use Rattle.trace_events.proofs.Broken.{length-history}
use Rattle.state_tables.specs.Connections.{IsLawfulNext}
use Rattle.route_work.specs.RouterState.{IsUnbroken}

module _ (rules : RuleSet) (records : List Record) (r : Record) where
  abbrev past : List Event
  past = history rules records

  -- an event like it, at the moment that was read, is it
  pub same-event : (e : Event) → e ≡ judge rules past r → (record e { moment = moment_of r.what }) ≡ judge rules past r
  same-event e same = ap (λ (x : Event). let y : Event = record x { moment = moment_of r.what } in y) same

  -- the record's event, by which the state is moved
  pub lawful-next : (e : Event) → e ≡ judge rules past r → first_broken rules past ≡ None → IsUnbroken rules records r → IsLawfulNext rules records r e
  lawful-next e same lawful unbroken = (same, ap (λ (x : Event). first_broken rules (x ∷ past)) same ∙ rw (lawful, unbroken) refl)

  -- what holds of the event and those before it holds of the longer capture
  pub longer : (P : List Event → Type 0) (e : Event) → e ≡ judge rules past r → P (e ∷ past) → P (history rules (records ++ r ∷ []))
  longer P e same holds = subst P (ap (λ (x : Event). x ∷ past) same ∙ sym (history-push rules records r)) holds

  -- as many events as records
  pub numbered : (number : ℕ) → number ≡ length records → number ≡ length past
  numbered number is = is ∙ sym (length-history rules records)

-- where something was answered, one thing is so because another is
pub on_ok : {A E P Q : Type 0} (result : Result A E) → OnOk result P → (P → Q) → OnOk result Q
on_ok (Ok x) is so = so is
on_ok (Err e) is so = tt
