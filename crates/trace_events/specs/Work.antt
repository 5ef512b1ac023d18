-- Lists of work: the deliveries to clients that are to be settled, and the copies that are to be sent on a link; and what
-- one event does to them (own rules).
use Rattle.std.specs.Prelude.{Bool, ◌&&◌, ◌||◌, not, List, is_some, filter, reverse}
use Rattle.amqp_perf.specs.Meaning.{flag}
use Rattle.capture_form.specs.Rules.{RuleSet}
use Rattle.trace_events.specs.Words.{is_some_and, is_number}
use Rattle.trace_events.specs.Event.{Event, Link, Incoming, Outgoing}
use Rattle.trace_events.specs.Link.{is_live}
use Rattle.trace_events.specs.Ends.{ends_link}
use Rattle.trace_events.specs.Disposition.{is_decisive}
use Rattle.trace_events.specs.Incoming.{settles_part, settles_id}
use Rattle.trace_events.specs.Outgoing.{outgoing_deliveries, noted, answering, decision, is_settled_by_consumer, is_settled_by_router}
use Rattle.trace_events.specs.Queue.{completed_deliveries}
use Rattle.trace_events.specs.Due.{makes_due, due_count, is_unsent}
use Rattle.trace_events.specs.Settling.{is_closed, is_to_settle}

-- ---- deliveries to settle

-- all of them, the first begun first
abbrev pub deliveries_to_settle : List Event → List Outgoing
deliveries_to_settle past = filter (is_to_settle past) (reverse (outgoing_deliveries past))

-- its link lives, and neither side has settled it
abbrev pub stands_unsettled : List Event → Outgoing → Bool
stands_unsettled past j = is_live past j.link && not (is_settled_by_consumer j past) && not (is_settled_by_router j past)

-- nothing more is to be told of what it carries
abbrev pub carries_closed : List Event → Outgoing → Bool
carries_closed past j = is_some_and (noted j.note past) (is_closed past)

-- the event doesn't end its link, and neither side settles it with the event
abbrev pub keeps_unsettled : Event → Outgoing → Bool
keeps_unsettled e j =
    not (ends_link j.link e) && not (is_some_and (answering j e) (λ fields. flag fields.settled)) && not (is_number e.settled j.number)

-- its consumer decides it with the event, if the link lives and the consumer hasn't decided it before
abbrev pub decides_now : Event → Outgoing → Bool
decides_now e j = not j.link.is_pre_settled && is_some_and (answering j e) is_decisive

-- nothing more is to be told of an incoming delivery: the event tells it or settles it, or ends its link
abbrev pub closes_incoming : Event → Incoming → Bool
closes_incoming e d = is_number e.told d.number || (settles_part d e || settles_id d e) || ends_link d.link e

abbrev pub closes_carried : Event → List Event → Outgoing → Bool
closes_carried e past j = is_some_and (noted j.note past) (closes_incoming e)

-- with the event it is decided, and nothing more is to be told of what it carries; one of both comes by the event
abbrev pub comes_to_settle : Event → List Event → Outgoing → Bool
comes_to_settle e past j =
    stands_unsettled past j
    && (decides_now e j && (carries_closed past j || closes_carried e past j)
    || closes_carried e past j && (is_some (decision j past) || decides_now e j))

-- ---- copies to send

-- all that are due to the link and unsent, the first completed first
abbrev pub unsent_copies : RuleSet → Link → List Event → List Incoming
unsent_copies rules l past = reverse (filter (λ d. is_unsent rules d l past) (completed_deliveries past))

-- a copy of what the event completes is due to the link
abbrev pub comes_due : RuleSet → Link → Event → List Event → Bool
comes_due rules l e past = makes_due rules l e past (due_count rules l past)
