-- What is to be said of a capture's records: which record breaks which clause first, or a tally.
use Rattle.std.specs.Prelude.{ℕ, Bool, List, length, Option, Some, None, Result, Ok, Err, count_by}
use Rattle.capture_form.specs.declared.records.Record.{Record}
use Rattle.capture_form.specs.Rules.{RuleSet}
use Rattle.trace_events.specs.declared.clause.Clause.{Clause}
use Rattle.trace_events.specs.declared.tally.Tally.{Tally}
use Rattle.trace_events.specs.Words.{is_some_and}
use Rattle.trace_events.specs.Event.{Event}
use Rattle.trace_events.specs.Said.{out_disposition}
use Rattle.trace_events.specs.Link.{is_receiver}
use Rattle.trace_events.specs.Credit.{begins_outgoing}
use Rattle.trace_events.specs.History.{history}
use Rattle.trace_events.specs.Clauses.{first_broken}

abbrev pub tells_outcome : Event → Bool
tells_outcome e = is_some_and (out_disposition e) (λ fields. is_receiver fields.role)

-- how many records there are, how many transfers to clients begin a delivery, and how many outcomes are told
abbrev pub tally_of : List Event → Tally
tally_of past = record { records = length past; deliveries = count_by begins_outgoing past; outcomes = count_by tells_outcome past }

abbrev pub tallied_or : Tally → Option (ℕ × Clause) → Result Tally (ℕ × Clause)
tallied_or tally None = Ok tally
tallied_or tally (Some broken) = Err broken

-- of events
abbrev pub judgement : RuleSet → List Event → Result Tally (ℕ × Clause)
judgement rules past = tallied_or (tally_of past) (first_broken rules past)

-- of a capture
abbrev pub verdict : RuleSet → List Record → Result Tally (ℕ × Clause)
verdict rules records = judgement rules (history rules records)
