-- L11 and L12: outcomes that the router tells, and deliveries that it settles (part 2 of the standard, section 2.7.6).
use Rattle.std.specs.Prelude.{ℕ, Bool, false, ◌&&◌, List, Option, is_some, option_and_then, option_map, ◌==◌}
use Rattle.amqp_perf.specs.Meaning.{DispositionFields, flag, last_id}
use Rattle.pairing_cert.specs.declared.note.Note.{Note}
use Rattle.capture_form.specs.Rules.{RuleSet}
use Rattle.trace_events.specs.Words.{is_some_and, are_same_octets}
use Rattle.trace_events.specs.Event.{Event, Incoming}
use Rattle.trace_events.specs.Incoming.{incoming_at}
use Rattle.trace_events.specs.Outcome.{may_be_told, row}
use Rattle.pairing_cert.specs.declared.note.Note.TheVariants as notes

-- settled, and of one id
abbrev pub settles_one : DispositionFields → Bool
settles_one fields = flag fields.settled && last_id fields == fields.first

-- the row of the note applies to the delivery, with the state that is told
abbrev pub tells_by : RuleSet → Incoming → Note → Option (List ℕ) → List Event → Bool
tells_by rules d (notes.Told why) state past = is_some_and (row rules d past why) (are_same_octets state)
tells_by rules d notes.None state past = false
tells_by rules d (notes.Pair n) state past = false

-- L11: an outcome, of a delivery that may be told one
abbrev pub is_outcome_of : RuleSet → Event → DispositionFields → List Event → Incoming → Bool
is_outcome_of rules e fields past d =
    may_be_told d past && tells_by rules d e.note (option_map (λ state. state.octets) fields.state) past

abbrev pub is_outcome : RuleSet → Event → DispositionFields → List Event → Bool
is_outcome rules e fields past =
    settles_one fields
    && is_some_and (option_and_then (λ n. incoming_at n past) e.told) (is_outcome_of rules e fields past)

-- L12: a settling, of a delivery that is to be settled
abbrev pub is_settling : Event → DispositionFields → Bool
is_settling e fields = settles_one fields && is_some e.settled
