-- Which deliveries to clients an event touches, and which of them are found for it by the groups.
use Rattle.std.specs.Prelude.{ℕ, Bool, ◌&&◌, ◌||◌, List, length, Option, None, is_some, option_and_then, option_map, nat_eq, if◌then◌else◌, ◌==◌}
use Rattle.std.specs.List.{list_any}
use Rattle.amqp_perf.specs.Meaning.{last_id}
use Rattle.number_groups.specs.Groups.{is_member, numbers}
use Rattle.trace_events.specs.Words.{is_number, is_some_and}
use Rattle.trace_events.specs.Event.{Event, Link}
use Rattle.trace_events.specs.Said.{in_disposition}
use Rattle.trace_events.specs.Ends.{ends_link}
use Rattle.trace_events.specs.Link.{is_receiver}
use Rattle.trace_events.specs.Outgoing.{is_part, answering}
use Rattle.state_outgoing.specs.Sent.{Sent}
use Rattle.state_outgoing.specs.IdRanges.{are_few, span, stands_under}
use Rattle.state_outgoing.specs.declared.groups.SentGroups.{SentGroups}
use Rattle.state_outgoing.specs.declared.id_range.IdRange.{IdRange}

-- the event touches a delivery: it is a part of it; or it is still unsettled, and its consumer says something of it, the event
-- ends its link, or the router settles it
abbrev pub touches : Event → Sent → Bool
touches e x =
    is_part x.delivery e
    || x.is_unsettled && (is_some (answering x.delivery e) || ends_link x.delivery.link e || is_number e.settled x.delivery.number)

-- ---- how they are found

-- the delivery that the event is a part of
abbrev pub part_number : Event → Option ℕ
part_number e = option_map (λ j. j.number) e.outgoing

-- the ids of which the event's consumer speaks
abbrev pub spoken_ids : Event → Option IdRange
spoken_ids e =
    option_and_then (λ fields. if is_receiver fields.role then option_map (λ s. record { session = s.number; first = fields.first; last = last_id fields }) e.session else None)
    (in_disposition e)

-- what stands under these ids is found by them, where they are few beside what is unsettled on their session; else that is
abbrev pub finds : SentGroups → IdRange → ℕ → Bool
finds groups ids n =
    if are_few (span ids) (length (numbers nat_eq groups.of_session ids.session)) then stands_under groups.of_id ids n
    else is_member nat_eq groups.of_session ids.session n

-- its consumer speaks of it
abbrev pub is_spoken_of : SentGroups → Event → ℕ → Bool
is_spoken_of groups e n = is_some_and (spoken_ids e) (λ ids. finds groups ids n)

-- these links end with the event
abbrev pub may_touch : SentGroups → List Link → Event → ℕ → Bool
may_touch groups ended e n =
    is_number (part_number e) n || is_number e.settled n || is_spoken_of groups e n || list_any (λ l. is_member nat_eq groups.of_link l.number n) ended
