-- Transfers that are due: each carries as much of the rest of its delivery as its frame may.
use Rattle.std.specs.Prelude.{ℕ, ◌-◌, Bool, true, List, [], length, take, drop, nat_lt}
use Rattle.amqp_perf.specs.Meaning.{TransferFields}
use Rattle.trace_events.specs.Frame.{Spoken}
use Rattle.trace_events.specs.Event.{Event, Link, Incoming, Outgoing}
use Rattle.trace_events.specs.Connection.{frame_limit}
use Rattle.trace_events.specs.Incoming as incoming
use Rattle.trace_events.specs.Outgoing as outgoing
use Rattle.trace_events.specs.Outgoing.{next_delivery_id}
use Rattle.trace_events.specs.Written.{spoken_octets, written_transfer, first_part, next_part}

-- how many octets of payload a transfer of these fields has room for: what its frame leaves without any, whether or not
-- more follows
abbrev pub room_on : List Event → Link → (Bool → TransferFields) → ℕ
room_on past l fields = frame_limit l.session.connection past - length (spoken_octets (written_transfer l (fields true) []))

-- it takes so many of these octets, and more follows just where there are others
abbrev pub filled_on : List Event → Link → (Bool → TransferFields) → List ℕ → Spoken
filled_on past l fields octets =
    written_transfer l (fields (nat_lt (room_on past l fields) (length octets))) (take (room_on past l fields) octets)

-- the first part of a delivery, with the session's next id
abbrev pub first_frame : List Event → Link → Incoming → Spoken
first_frame past l d = filled_on past l (first_part l (next_delivery_id l.session past) d.format) (incoming.payload d past)

-- a later one, by what was sent so far
abbrev pub next_frame : List Event → Link → Incoming → Outgoing → Spoken
next_frame past l d j = filled_on past l (next_part l) (drop (length (outgoing.payload j past)) (incoming.payload d past))
