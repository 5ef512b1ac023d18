-- Deliveries from clients: their parts, and whether their producer has settled them (part 2 of the standard, sections
-- 2.6.12 and 2.6.14).
use Rattle.std.specs.Prelude.{ℕ, Bool, ◌&&◌, ◌||◌, not, List, [], ◌∷◌, Option, Some, None, option_map, unwrap_or, take, filter_map, find, nat_lt, ◌==◌, if◌then◌else◌}
use Rattle.std.specs.List.{list_any}
use Rattle.amqp_perf.specs.Meaning.{TransferFields, flag}
use Rattle.amqp_perf.specs.Message.{to_of}
use Rattle.flow_counts.specs.declared.profile.TheConstants.{MAX_MESSAGE_SIZE}
use Rattle.flow_counts.specs.Parts.{joined_payload}
use Rattle.trace_events.specs.Words.{is_some_and, is_number, where_passes}
use Rattle.trace_events.specs.Frame.{Spoken}
use Rattle.trace_events.specs.Event.{Event, Link, Incoming, is_on_session}
use Rattle.trace_events.specs.Said.{in_spoken, in_transfer, in_disposition}
use Rattle.trace_events.specs.Link.{is_sender, is_anonymous}
use Rattle.trace_events.specs.Disposition.{covers_id}

-- a delivery goes on after a transfer with more that isn't aborted (2.7.5)
abbrev pub goes_on : TransferFields → Bool
goes_on fields = flag fields.more && not (flag fields.aborted)

-- the delivery of the link whose last part hasn't come yet
abbrev pub in_progress : Link → List Event → Option Incoming
in_progress l [] = None
in_progress l (e ∷ past) =
    let earlier = in_progress l past in
    if is_some_and e.incoming (λ d. d.link.number == l.number)
    then (if is_some_and (in_transfer e) goes_on then e.incoming else None) else earlier

-- the event is one of the delivery's parts
abbrev pub is_part : Incoming → Event → Bool
is_part d e = is_some_and e.incoming (λ other. other.number == d.number)

-- what stands behind a transfer
abbrev pub part_payload : Option Spoken → List ℕ
part_payload None = []
part_payload (Some spoken) = spoken.payload

-- the payloads of its parts, joined
abbrev pub payload : Incoming → List Event → List ℕ
payload d past = joined_payload (is_part d) (λ e. part_payload (in_spoken e)) past

-- a part without more that isn't aborted completes its delivery
abbrev pub is_last_part : TransferFields → Bool
is_last_part fields = not (flag fields.more) && not (flag fields.aborted)

-- the delivery that this event completes
abbrev pub completed_by : Event → Option Incoming
completed_by e = if is_some_and (in_transfer e) is_last_part then e.incoming else None

abbrev pub completes : Incoming → Event → Bool
completes d e = is_some_and (completed_by e) (λ other. other.number == d.number)

abbrev pub is_complete : Incoming → List Event → Bool
is_complete d past = list_any (completes d) past

-- its message, once it is complete: no longer than a message may be, else a transfer of it was at fault
abbrev pub message : Incoming → List Event → List ℕ
message d past = take MAX_MESSAGE_SIZE (payload d past)

-- the address in its message, told by the event that completes it (part 3, section 3.2.4); empty where there is none
unfoldable pub message_address : Incoming → List Event → List ℕ
message_address d [] = []
message_address d (e ∷ past) =
    let earlier = message_address d past in if completes d e then unwrap_or (to_of (message d (e ∷ past))) [] else earlier

-- the address that it is for: its link's, or on a link without one its message's, from its completion on (own rule)
abbrev pub address_of : Incoming → List Event → List ℕ
address_of d past = if is_anonymous d.link then message_address d past else d.link.address

-- the record that completed it
abbrev pub completion : Incoming → List Event → Option ℕ
completion d past = option_map (λ e. e.number) (find (completes d) past)

-- the one was completed before the other
abbrev pub completed_before : Incoming → Incoming → List Event → Bool
completed_before a b past = is_some_and (completion a past) (λ m. is_some_and (completion b past) (λ n. nat_lt m n))

-- with this event its producer gives it up (2.7.5)
abbrev pub aborts : Incoming → Event → Bool
aborts d e = is_part d e && is_some_and (in_transfer e) (λ fields. flag fields.aborted)

-- it was given up
abbrev pub is_aborted : Incoming → List Event → Bool
is_aborted d past = list_any (aborts d) past

-- ---- the deliveries of a capture

abbrev pub incoming_begun : Event → Option Incoming
incoming_begun e = where_passes (λ d. d.number == e.number) e.incoming

-- all that have begun, the last first
abbrev pub incoming_deliveries : List Event → List Incoming
incoming_deliveries past = filter_map incoming_begun past

-- the one that begins in this record
abbrev pub incoming_at : ℕ → List Event → Option Incoming
incoming_at n past = find (λ d. d.number == n) (incoming_deliveries past)

abbrev pub is_from : Link → Incoming → Bool
is_from l d = d.link.number == l.number

-- ---- settled by the producer, or told

-- a heard disposition of the producer, behind the delivery's first transfer, that settles its id
abbrev pub settles_id : Incoming → Event → Bool
settles_id d e =
    is_some_and (in_disposition e) (λ fields. is_sender fields.role && flag fields.settled && covers_id fields d.id)
    && e.is_heard && is_on_session d.link.session e && nat_lt d.number e.number

abbrev pub settles_part : Incoming → Event → Bool
settles_part d e = is_part d e && is_some_and (in_transfer e) (λ fields. flag fields.settled)

-- a part of it or a disposition says that it is settled
abbrev pub is_settled : Incoming → List Event → Bool
is_settled d past = list_any (λ e. settles_part d e || settles_id d e) past

-- its outcome was told
abbrev pub is_told : Incoming → List Event → Bool
is_told d past = list_any (λ e. is_number e.told d.number) past
