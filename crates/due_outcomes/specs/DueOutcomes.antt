-- An outcome that is due (part 3 of the standard, section 3.4; the rows are own rules).
use Rattle.std.specs.Prelude.{◌≡◌, ℕ, true, List, Option, Some}
use Rattle.pairing_cert.specs.declared.note.Why.{Why}
use Rattle.capture_form.specs.Rules.{RuleSet}
use Rattle.trace_events.specs.Event.{Event, Incoming}
use Rattle.trace_events.specs.Incoming.{incoming_at}
use Rattle.trace_events.specs.Outcome.{may_be_told, row}

-- the delivery may be told, and the row tells it this state, by its octets, or none
pub record IsDueOutcome (rules : RuleSet) (past : List Event) (d : Incoming) (why : Why) (state : Option (List ℕ)) : Type 0 where
  pub at : incoming_at d.number past ≡ Some d
  pub may : may_be_told d past ≡ true
  pub tells : row rules d past why ≡ Some state
