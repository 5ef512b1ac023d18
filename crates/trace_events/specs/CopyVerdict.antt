-- What came of the copies of a multicast delivery, each on the link that it is due to (states: part 3 of the standard,
-- section 3.4; that copies have a verdict is an own rule).
use Rattle.std.specs.Prelude.{Bool, ◌&&◌, not, List, ◌∷◌, Option, Some, None, is_none, option_and_then, unwrap_or, find, if◌then◌else◌}
use Rattle.amqp_perf.specs.declared.descriptor.Outcome.{Outcome}
use Rattle.amqp_perf.specs.declared.descriptor.Outcome.TheVariants.{Accepted, Modified}
use Rattle.amqp_perf.specs.Meaning.{DispositionFields, flag}
use Rattle.capture_form.specs.Rules.{RuleSet}
use Rattle.trace_events.specs.Words.{is_some_and, or_else}
use Rattle.trace_events.specs.Event.{Event, Link, Incoming, Outgoing}
use Rattle.trace_events.specs.Said.{out_transfer}
use Rattle.trace_events.specs.Link.{is_live}
use Rattle.trace_events.specs.Ends.{ends_link}
use Rattle.trace_events.specs.Disposition.{terminal_state}
use Rattle.trace_events.specs.Outgoing.{outgoing_deliveries, is_on, is_part, is_sent, names, deciding, decision}
use Rattle.trace_events.specs.Incoming.{completes}
use Rattle.trace_events.specs.Due.{is_due}
use Rattle.trace_events.specs.Work.{comes_due}

-- ---- one copy

-- the copy on the link: the delivery to its client that carries the multicast one
abbrev pub copy_on : Incoming → Link → List Event → Option Outgoing
copy_on d l past = find (λ j. is_on l j && names d.number j.note) (outgoing_deliveries past)

-- what a consumer decides by a disposition: its terminal state's outcome, and accepted without one
abbrev pub decided_outcome : DispositionFields → Outcome
decided_outcome fields = unwrap_or (option_and_then (λ state. state.outcome) (terminal_state fields)) Accepted

-- of a copy that was begun: what its consumer decided; accepted without a decision, where the router settled it with its last
-- part
abbrev pub sent_verdict : Option DispositionFields → Bool → Option Outcome
sent_verdict (Some fields) settled = Some (decided_outcome fields)
sent_verdict None settled = if settled then Some Accepted else None

-- of the copy on the link, where one was begun
abbrev pub begun_verdict : Incoming → Link → List Event → Option Outcome
begun_verdict d l past = option_and_then (λ j. sent_verdict (decision j past) (j.link.is_pre_settled && is_sent j past)) (copy_on d l past)

-- that; modified, where the link is over without it
abbrev pub verdict_on : List Event → Link → Option Outgoing → Option Outcome
verdict_on past l copy =
    or_else (option_and_then (λ j. sent_verdict (decision j past) (j.link.is_pre_settled && is_sent j past)) copy) (if is_live past l then None else Some Modified)

-- the verdict of the delivery's copy on a link that it is due to, if there is one yet
abbrev pub copy_verdict : Incoming → Link → List Event → Option Outcome
copy_verdict d l past = verdict_on past l (copy_on d l past)

-- ---- all copies

-- a copy is due to the link, and has no verdict yet
abbrev pub awaits_verdict : RuleSet → Incoming → List Event → Link → Bool
awaits_verdict rules d past l = is_due rules d l past && is_none (copy_verdict d l past)

-- ---- what one event does

-- the event is the last part of a delivery on a link that is settled beforehand
abbrev pub ends_settled : Event → Outgoing → Bool
ends_settled e j = j.link.is_pre_settled && (is_part j e && is_some_and (out_transfer e) (λ fields. not (flag fields.more)))

-- what its consumer decides with the event, on a link that isn't settled beforehand
abbrev pub deciding_now : Event → List Event → Outgoing → Option DispositionFields
deciding_now e past j = if j.link.is_pre_settled then None else deciding j e past

-- what the event gives a copy that was begun: what its consumer decides; accepted, with its last part
abbrev pub begun_verdict_by : Event → List Event → Incoming → Link → Option Outcome
begun_verdict_by e past d l = option_and_then (λ j. sent_verdict (deciding_now e past j) (ends_settled e j)) (copy_on d l (e ∷ past))

-- the verdict that the event gives the copy on the link, if it has none: that; or modified, by the end of the link
abbrev pub verdict_by : Event → List Event → Incoming → Link → Option Outcome
verdict_by e past d l = or_else (begun_verdict_by e past d l) (if ends_link l e then Some Modified else None)

-- a copy awaits its verdict with the event: it did before, or it comes due to the link
abbrev pub awaits_now : RuleSet → Event → List Event → Incoming → Link → Bool
awaits_now rules e past d l = if completes d e then comes_due rules l e past else awaits_verdict rules d past l
