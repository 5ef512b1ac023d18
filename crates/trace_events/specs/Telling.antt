-- The outcomes to tell, as a list of work: which deliveries have an outcome, whatever its row, and what one event does to
-- that (own rules).
use Rattle.std.specs.Prelude.{Bool, ◌&&◌, ◌||◌, not, List, ◌∷◌, is_some, filter, reverse, if◌then◌else◌}
use Rattle.amqp_perf.specs.Meaning.{flag}
use Rattle.capture_form.specs.Rules.{RuleSet}
use Rattle.trace_events.specs.Words.{is_some_and}
use Rattle.trace_events.specs.Event.{Event, Incoming, Outgoing}
use Rattle.trace_events.specs.Said.{out_transfer}
use Rattle.trace_events.specs.Link.{is_live}
use Rattle.trace_events.specs.Ends.{ends_link}
use Rattle.trace_events.specs.Address.{has_consumer}
use Rattle.trace_events.specs.Incoming.{address_of, incoming_deliveries, completes, is_complete}
use Rattle.trace_events.specs.Outgoing.{is_part, pairing, decision}
use Rattle.trace_events.specs.Waiting.{is_of_multicast, is_waiting, is_gone}
use Rattle.trace_events.specs.Queue.{pairs}
use Rattle.trace_events.specs.Work.{decides_now}
use Rattle.trace_events.specs.BestVerdict.{has_all_verdicts}
use Rattle.trace_events.specs.Outcome.{is_sent_settled, is_to_tell}

-- all that are to be told, the first begun first
abbrev pub outcomes_to_tell : RuleSet → List Event → List Incoming
outcomes_to_tell rules past = filter (is_to_tell rules past) (reverse (incoming_deliveries past))

-- of a delivery to a client: its consumer has decided it, or was sent all of it on a pre-settled link, or its link is over
abbrev pub is_answered : List Event → Outgoing → Bool
is_answered past j = is_some (decision j past) || is_sent_settled j past || not (is_live past j.link)

-- a complete delivery has an outcome where it is gone, or what carries it is answered; one of multicast, where each copy that
-- is due has its verdict
abbrev pub has_outcome : RuleSet → List Event → Incoming → Bool
has_outcome rules past d =
    is_complete d past
    && (if is_of_multicast rules d past then has_all_verdicts rules d past
    else is_gone rules d past || is_some_and (pairing d past) (is_answered past))

-- the event answers a delivery to a client: its consumer decides it, or it is the last part on a pre-settled link, or the
-- link ends
abbrev pub answers_now : Event → List Event → Outgoing → Bool
answers_now e past j =
    is_live past j.link && decides_now e j
    || j.link.is_pre_settled && (is_part j e && is_some_and (out_transfer e) (λ fields. not (flag fields.more))) || ends_link j.link e

-- the event completes a delivery of multicast of which no copy is due, or gives its last verdict to one that lacked some
abbrev pub gets_last_verdict : RuleSet → Event → List Event → Incoming → Bool
gets_last_verdict rules e past d =
    (completes d e || is_complete d past && not (has_all_verdicts rules d past)) && has_all_verdicts rules d (e ∷ past)

-- the event gives a delivery its outcome: the last verdict of one of multicast; it completes one whose address has no
-- consumer; it leaves one that waits without a consumer; or it answers what carries it
abbrev pub gets_outcome : RuleSet → Event → List Event → Incoming → Bool
gets_outcome rules e past d =
    if is_of_multicast rules d (e ∷ past) then gets_last_verdict rules e past d
    else completes d e && not (has_consumer (address_of d (e ∷ past)) (e ∷ past))
    || is_waiting rules d past && not (has_consumer (address_of d (e ∷ past)) (e ∷ past)) && not (pairs d e)
    || is_some_and (pairing d (e ∷ past)) (answers_now e past)
