-- Deliveries to clients: their parts, the incoming delivery that each carries, and what its consumer decides (part 2 of
-- the standard, sections 2.6.12 and 2.6.14).
use Rattle.std.specs.Prelude.{ℕ, ◌%◌, ◌^◌, Bool, false, ◌&&◌, ◌||◌, not, List, [], ◌∷◌, Option, Some, None, option_and_then, is_some, filter_map, find, count_by, nat_lt, ◌==◌, if◌then◌else◌}
use Rattle.std.specs.List.{list_any}
use Rattle.amqp_perf.specs.Meaning.{DispositionFields, flag}
use Rattle.flow_counts.specs.Parts.{joined_payload}
use Rattle.pairing_cert.specs.declared.note.Note.{Note}
use Rattle.pairing_cert.specs.declared.note.Note.TheVariants as notes
use Rattle.trace_events.specs.Words.{is_some_and, is_number, or_else, where_passes}
use Rattle.trace_events.specs.Event.{Event, Link, Incoming, Outgoing, is_on_session, is_on_link}
use Rattle.trace_events.specs.declared.session.Session.{Session}
use Rattle.trace_events.specs.Said.{out_spoken, out_transfer, in_disposition}
use Rattle.trace_events.specs.Link.{is_receiver, is_live}
use Rattle.trace_events.specs.Disposition.{covers_id, is_decisive}
use Rattle.trace_events.specs.Incoming.{part_payload, incoming_at}

-- ---- parts

-- the delivery of the link whose last part isn't written yet
abbrev pub in_progress : Link → List Event → Option Outgoing
in_progress l [] = None
in_progress l (e ∷ past) =
    let earlier = in_progress l past in
    if is_some_and e.outgoing (λ j. j.link.number == l.number)
    then (if is_some_and (out_transfer e) (λ fields. flag fields.more) then e.outgoing else None) else earlier

-- the event is one of the delivery's parts
abbrev pub is_part : Outgoing → Event → Bool
is_part j e = is_some_and e.outgoing (λ other. other.number == j.number)

-- the payloads of its parts, joined
abbrev pub payload : Outgoing → List Event → List ℕ
payload j past = joined_payload (is_part j) (λ e. part_payload (out_spoken e)) past

-- its last part is written
abbrev pub is_sent : Outgoing → List Event → Bool
is_sent j past = list_any (λ e. is_part j e && is_some_and (out_transfer e) (λ fields. not (flag fields.more))) past

-- ---- the deliveries of a capture

abbrev pub outgoing_begun : Event → Option Outgoing
outgoing_begun e = where_passes (λ j. j.number == e.number) e.outgoing

-- all that have begun, the last first
abbrev pub outgoing_deliveries : List Event → List Outgoing
outgoing_deliveries past = filter_map outgoing_begun past

-- the one that begins in this record
abbrev pub outgoing_at : ℕ → List Event → Option Outgoing
outgoing_at n past = find (λ j. j.number == n) (outgoing_deliveries past)

abbrev pub is_on : Link → Outgoing → Bool
is_on l j = j.link.number == l.number

-- the id of the session's next delivery: how many have begun (own rule; 2.7.5)
abbrev pub next_delivery_id : Session → List Event → ℕ
next_delivery_id s past = count_by (λ j. j.link.session.number == s.number) (outgoing_deliveries past) % 2 ^ 32

-- ---- pairs of an incoming delivery and an outgoing one

-- the note names the incoming delivery of this number
abbrev pub names : ℕ → Note → Bool
names n (notes.Pair m) = m == n
names n notes.None = false
names n (notes.Told why) = false

-- the number of the incoming delivery that a note names
abbrev pub noted_number : Note → Option ℕ
noted_number (notes.Pair n) = Some n
noted_number notes.None = None
noted_number (notes.Told why) = None

-- that of the one which the delivery carries that the event is a part of
abbrev pub carried_number : Event → Option ℕ
carried_number e = option_and_then (λ j. noted_number j.note) e.outgoing

-- the incoming delivery that a note names
abbrev pub noted : Note → List Event → Option Incoming
noted (notes.Pair n) past = incoming_at n past
noted notes.None past = None
noted (notes.Told why) past = None

-- the last outgoing delivery that carries the incoming one
abbrev pub pairing : Incoming → List Event → Option Outgoing
pairing d past = find (λ j. names d.number j.note) (outgoing_deliveries past)

abbrev pub is_paired : Incoming → List Event → Bool
is_paired d past = is_some (pairing d past)

-- a transfer on the link names the incoming delivery
abbrev pub is_named_on : Incoming → Link → List Event → Bool
is_named_on d l past = list_any (λ e. is_some (out_transfer e) && names d.number e.note && is_on_link l e) past

-- ---- what the consumer decides

-- a heard disposition of the consumer, behind the delivery's first transfer, that covers its id
abbrev pub answering : Outgoing → Event → Option DispositionFields
answering j e =
    if e.is_heard && is_on_session j.link.session e && nat_lt j.number e.number
    then where_passes (λ fields. is_receiver fields.role && covers_id fields j.id) (in_disposition e) else None

-- such a one that decides, while the link lives
abbrev pub deciding : Outgoing → Event → List Event → Option DispositionFields
deciding j e past = if is_live past j.link then where_passes is_decisive (answering j e) else None

abbrev pub first_deciding : Outgoing → List Event → Option DispositionFields
first_deciding j [] = None
first_deciding j (e ∷ past) = let earlier = first_deciding j past in or_else earlier (deciding j e past)

-- the consumer's decision: the first of these; on a pre-settled link there is none
abbrev pub decision : Outgoing → List Event → Option DispositionFields
decision j past = if j.link.is_pre_settled then None else first_deciding j past

-- a heard disposition of the consumer settles the delivery, whether it decides or not, while the link lives
abbrev pub is_settled_by_consumer : Outgoing → List Event → Bool
is_settled_by_consumer j [] = false
is_settled_by_consumer j (e ∷ past) =
    let earlier = is_settled_by_consumer j past in
    is_live past j.link && is_some_and (answering j e) (λ fields. flag fields.settled) || earlier

-- the router settled it
abbrev pub is_settled_by_router : Outgoing → List Event → Bool
is_settled_by_router j past = list_any (λ e. is_number e.settled j.number) past
