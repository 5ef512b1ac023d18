-- Which of the deliveries that are kept an event touches.
use Rattle.std.specs.Prelude.{◌≡◌, Bool, true, ◌&&◌, ◌||◌, not, List, Contains}
use Rattle.trace_events.specs.Words.{is_number}
use Rattle.trace_events.specs.Event.{Event, Link}
use Rattle.trace_events.specs.Ends.{ends_link}
use Rattle.trace_events.specs.Link.{IsLiveLink}
use Rattle.trace_events.specs.Incoming.{is_part, settles_id}
use Rattle.trace_events.specs.Queue.{pairs}
use Rattle.state_incoming.specs.Held.{Held, says_arriving, says_gone, says_waiting, stands_open}

-- these links end with the event: each that lives before it and ends with it is among them
abbrev pub EndWith : List Event → Event → List Link → Type 0
EndWith past e ended = (l : Link) → IsLiveLink l past → ends_link l e ≡ true → Contains ended l

-- the event touches a delivery: it is a part of it, tells it, pairs it, settles an undecided one or ends its link, or leaves
-- it waiting where its address has no consumer
abbrev pub is_touched : Event → Bool → Held → Bool
is_touched e has x =
    is_part x.delivery e || is_number e.told x.delivery.number || pairs x.delivery e
    || x.is_undecided && (settles_id x.delivery e || ends_link x.delivery.link e) || says_waiting x.fate && not has

-- what each that is kept is: not gone with nothing more to be told; undecided, or complete with nothing more to be told; and
-- undecided only while it arrives, waits, or is to be told of
abbrev pub is_kept : Held → Bool
is_kept x =
    not (says_gone x.fate && x.is_closed) && (x.is_undecided || not (says_arriving x.fate) && x.is_closed)
    && (not x.is_undecided || stands_open x.fate x.is_closed)
