-- Each fault of a client's frame, met by a capture whose last record has it; and frames that are passed over.
use Rattle.std.specs.Prelude.{◌≡◌, List, true, false, [], ◌∷◌, ◌++◌, replicate, codes, Some, None, refl}
use Rattle.amqp_perf.specs.declared.attach.Role.TheVariants.{Sender, Receiver}
use Rattle.amqp_perf.specs.declared.attach.SenderSettleMode.TheVariants.{Mixed}
use Rattle.amqp_perf.specs.declared.attach.ReceiverSettleMode.TheVariants.{First}
use Rattle.amqp_perf.specs.declared.condition.ErrorCondition.TheVariants.{FramingError, DecodeError, NotAllowed, InvalidField, HandleInUse, ResourceLimitExceeded, NotImplemented, WindowViolation, UnattachedHandle, TransferLimitExceeded, MessageSizeExceeded}
use Rattle.amqp_perf.specs.Nested.{AnOther, ATerminus, ACoordinator}
use Rattle.amqp_perf.specs.Meaning.{AnAttach, AFlow, ATransfer, AnEnd, AClose}
use Rattle.pairing_cert.specs.declared.note.Why.TheVariants.{C}
use Rattle.capture_form.specs.declared.records.Record.{Record}
use Rattle.trace_events.specs.declared.fault.Fault.TheVariants.{Close, End, Refuse, Detach}
use Rattle.trace_events.specs.Fault.{size_fault}
use Rattle.trace_events.specs.Written.{spoken_octets, says, written_close, written_end, written_detach}
use Rattle.trace_events.proofs.Captures.{opened, client, fault_of, fault_behind, is_last_heard}
use Rattle.trace_events.proofs.Made.{from, from_with, write, carry, tell, open_of, begin_of, bare, sends_to, receives_from, session_flow, gives, first, next, with_more, disposes, accepted, detach_of, q, hi, connect, join, producer, consumer, pair, sent, terminus, written_to_consumer, written_refusal}

-- ---- the connection

-- a SASL frame; a frame cut short
no_frame : fault_of [] (connect 0 ++ (client 0 (0 ∷ 0 ∷ 0 ∷ 8 ∷ 2 ∷ 1 ∷ 0 ∷ 0 ∷ []) ∷ [])) ≡ Some (Close FramingError)
unfolding fault_of
no_frame = refl

cut_frame : fault_of [] (connect 0 ++ (client 0 (0 ∷ 0 ∷ 0 ∷ 9 ∷ 2 ∷ 0 ∷ 0 ∷ 0 ∷ []) ∷ [])) ≡ Some (Close FramingError)
unfolding fault_of
cut_frame = refl

-- the null value is no performative
no_performative : fault_of [] (connect 0 ++ (client 0 (0 ∷ 0 ∷ 0 ∷ 9 ∷ 2 ∷ 0 ∷ 0 ∷ 0 ∷ 0x40 ∷ []) ∷ [])) ≡ Some (Close DecodeError)
unfolding fault_of
no_performative = refl

begin_before_open : fault_of [] (opened 0 ∷ from 0 (begin_of None 100) ∷ []) ≡ Some (Close NotAllowed)
unfolding fault_of
begin_before_open = refl

second_open : fault_of [] (connect 0 ++ (from 0 (open_of 511) ∷ [])) ≡ Some (Close NotAllowed)
unfolding fault_of
second_open = refl

open_of_small_frames : fault_of [] (opened 0 ∷ from 0 (open_of 511) ∷ []) ≡ Some (Close InvalidField)
unfolding fault_of
open_of_small_frames = refl

-- a faulty open is an open that stands: what comes behind it isn't refused for want of one
begin_behind_faulty_open : fault_of [] (opened 0 ∷ from 0 (open_of 511) ∷ from 0 (begin_of None 100) ∷ []) ≡ None
unfolding fault_of
begin_behind_faulty_open = refl

-- ---- channels and sessions

begin_on_channel_256 : fault_of [] (connect 0 ++ (client 0 (spoken_octets (says 256 (begin_of None 100))) ∷ [])) ≡ Some (Close FramingError)
unfolding fault_of
begin_on_channel_256 = refl

-- before the open the channel isn't tested; a close has any channel
begin_on_channel_256_before_open : fault_of [] (opened 0 ∷ client 0 (spoken_octets (says 256 (begin_of None 100))) ∷ []) ≡ Some (Close NotAllowed)
unfolding fault_of
begin_on_channel_256_before_open = refl

close_on_channel_256 : fault_of [] (connect 0 ++ (client 0 (spoken_octets (says 256 (AClose None))) ∷ [])) ≡ None
unfolding fault_of
close_on_channel_256 = refl

begin_with_remote_channel : fault_of [] (connect 0 ++ (from 0 (begin_of (Some 0) 100) ∷ [])) ≡ Some (Close NotAllowed)
unfolding fault_of
begin_with_remote_channel = refl

second_begin : fault_of [] (join 0 ++ (from 0 (begin_of None 100) ∷ [])) ≡ Some (Close NotAllowed)
unfolding fault_of
second_begin = refl

flow_without_session : fault_of [] (connect 0 ++ (from 0 (AFlow (session_flow 0 100 0 100)) ∷ [])) ≡ Some (Close NotAllowed)
unfolding fault_of
flow_without_session = refl

-- ---- attaches

attach_on_handle_1024 : fault_of [] (join 0 ++ (from 0 (AnAttach (let fields = sends_to q in record fields { handle = 1024 })) ∷ [])) ≡ Some (Close FramingError)
unfolding fault_of
attach_on_handle_1024 = refl

attach_on_live_handle : fault_of [] (producer 0 q ++ (from 0 (AnAttach (sends_to q)) ∷ [])) ≡ Some (Close HandleInUse)
unfolding fault_of
attach_on_live_handle = refl

-- the client's detach is awaited, and frees the handle
attach_on_awaiting_handle : fault_of [] (producer 0 q ++ (write 0 (written_detach 0 0 true None) ∷ from 0 (AnAttach (sends_to q)) ∷ [])) ≡ Some (Close HandleInUse)
unfolding fault_of
attach_on_awaiting_handle = refl

attach_on_freed_handle : fault_of [] (producer 0 q ++ (write 0 (written_detach 0 0 true None) ∷ from 0 (detach_of true) ∷ from 0 (AnAttach (sends_to q)) ∷ [])) ≡ None
unfolding fault_of
attach_on_freed_handle = refl

-- a refused attach leaves its handle free until the router's detach
attach_behind_refusal : fault_of [] (join 0 ++ (from 0 (AnAttach (bare Sender None)) ∷ write 0 (written_refusal 0 (codes "l") 0 Receiver) ∷ from 0 (AnAttach (sends_to q)) ∷ [])) ≡ None
unfolding fault_of
attach_behind_refusal = refl

attach_of_long_name : fault_of [] (join 0 ++ (from 0 (AnAttach (let fields = bare Sender None in record fields { name = replicate 256 97 })) ∷ [])) ≡ Some (End ResourceLimitExceeded)
unfolding fault_of
attach_of_long_name = refl

sender_without_count : fault_of [] (join 0 ++ (from 0 (AnAttach (bare Sender None)) ∷ [])) ≡ Some (Refuse InvalidField)
unfolding fault_of
sender_without_count = refl

to_coordinator : fault_of [] (join 0 ++ (from 0 (AnAttach (let fields = bare Sender (Some 0) in record fields { target = Some ACoordinator })) ∷ [])) ≡ Some (Refuse NotImplemented)
unfolding fault_of
to_coordinator = refl

to_dynamic_target : fault_of [] (join 0 ++ (from 0 (AnAttach (let fields = bare Sender (Some 0) in record fields { target = Some (ATerminus (terminus (Some []) (Some true))) })) ∷ [])) ≡ Some (Refuse NotImplemented)
unfolding fault_of
to_dynamic_target = refl

sender_without_target : fault_of [] (join 0 ++ (from 0 (AnAttach (bare Sender (Some 0))) ∷ [])) ≡ Some (Refuse InvalidField)
unfolding fault_of
sender_without_target = refl

anonymous_sender : fault_of [] (join 0 ++ (from 0 (AnAttach (let fields = bare Sender (Some 0) in record fields { target = Some (ATerminus (terminus None None)) })) ∷ [])) ≡ Some (Refuse NotImplemented)
unfolding fault_of
anonymous_sender = refl

receiver_without_source : fault_of [] (join 0 ++ (from 0 (AnAttach (bare Receiver None)) ∷ [])) ≡ Some (Refuse InvalidField)
unfolding fault_of
receiver_without_source = refl

receiver_of_nothing : fault_of [] (join 0 ++ (from 0 (AnAttach (let fields = bare Receiver None in record fields { source = Some (terminus None (Some false)) })) ∷ [])) ≡ Some (Refuse InvalidField)
unfolding fault_of
receiver_of_nothing = refl

-- an address that is a number, an empty one, and one of 161 octets; beside dynamic it isn't looked at
receiver_of_number : fault_of [] (join 0 ++ (from 0 (AnAttach (let fields = bare Receiver None in record fields { source = Some (record { address = Some (AnOther (0x43 ∷ [])); dynamic = None }) })) ∷ [])) ≡ Some (Refuse InvalidField)
unfolding fault_of
receiver_of_number = refl

receiver_of_empty_address : fault_of [] (join 0 ++ (from 0 (AnAttach (receives_from [])) ∷ [])) ≡ Some (Refuse InvalidField)
unfolding fault_of
receiver_of_empty_address = refl

sender_to_long_address : fault_of [] (join 0 ++ (from 0 (AnAttach (sends_to (replicate 161 97))) ∷ [])) ≡ Some (Refuse ResourceLimitExceeded)
unfolding fault_of
sender_to_long_address = refl

sender_to_longest_address : fault_of [] (join 0 ++ (from 0 (AnAttach (sends_to (replicate 160 97))) ∷ [])) ≡ None
unfolding fault_of
sender_to_longest_address = refl

dynamic_with_address : fault_of [] (join 0 ++ (from 0 (AnAttach (let fields = bare Receiver None in record fields { source = Some (terminus (Some []) (Some true)) })) ∷ [])) ≡ None
unfolding fault_of
dynamic_with_address = refl

-- ---- flows, transfers and detaches

-- 2048 transfers use up the window, on whatever handle they stand; another has no room
window_used_up : fault_behind [] (join 0) 2047 (from 0 (ATransfer (first 0))) ≡ Some (End UnattachedHandle)
unfolding fault_behind
window_used_up = refl

window_violated : fault_behind [] (join 0) 2048 (from 0 (ATransfer (first 0))) ≡ Some (End WindowViolation)
unfolding fault_behind
window_violated = refl

flow_without_link : fault_of [] (join 0 ++ (from 0 (AFlow (gives 0 0 1)) ∷ [])) ≡ Some (End UnattachedHandle)
unfolding fault_of
flow_without_link = refl

transfer_without_link : fault_of [] (join 0 ++ (from 0 (ATransfer (first 0)) ∷ [])) ≡ Some (End UnattachedHandle)
unfolding fault_of
transfer_without_link = refl

detach_without_link : fault_of [] (join 0 ++ (from 0 (detach_of true) ∷ [])) ≡ Some (End UnattachedHandle)
unfolding fault_of
detach_without_link = refl

transfer_of_consumer : fault_of [] (consumer 0 Mixed q ++ (from 0 (ATransfer (first 0)) ∷ [])) ≡ Some (End NotAllowed)
unfolding fault_of
transfer_of_consumer = refl

transfer_resumed : fault_of [] (pair ++ (from 0 (ATransfer (let fields = first 0 in record fields { resume = Some true })) ∷ [])) ≡ Some (Detach NotImplemented)
unfolding fault_of
transfer_resumed = refl

-- a tag of 33 octets, also on a later part
transfer_of_long_tag : fault_of [] (pair ++ (from 0 (ATransfer (let fields = first 0 in record fields { delivery_tag = Some (replicate 33 0) })) ∷ [])) ≡ Some (Detach InvalidField)
unfolding fault_of
transfer_of_long_tag = refl

next_of_long_tag : fault_of [] (pair ++ (from 0 (ATransfer (with_more (first 0))) ∷ from 0 (ATransfer (let fields = next false in record fields { delivery_tag = Some (replicate 33 0) })) ∷ [])) ≡ Some (Detach InvalidField)
unfolding fault_of
next_of_long_tag = refl

transfer_of_longest_tag : fault_of [] (pair ++ (from 0 (ATransfer (let fields = first 0 in record fields { delivery_tag = Some (replicate 32 0) })) ∷ [])) ≡ None
unfolding fault_of
transfer_of_longest_tag = refl

transfer_without_id : fault_of [] (pair ++ (from 0 (ATransfer (next false)) ∷ [])) ≡ Some (Detach InvalidField)
unfolding fault_of
transfer_without_id = refl

-- the id is in use until its delivery is told; an aborted one's is free at once
transfer_of_id_in_use : fault_of [] (sent ++ (from 0 (ATransfer (first 0)) ∷ [])) ≡ Some (Detach NotAllowed)
unfolding fault_of
transfer_of_id_in_use = refl

transfer_of_freed_id : fault_of [] (sent ++ (carry 1 16 (first 0) hi ∷ tell 0 C (disposes Receiver 0 true accepted) ∷ from 0 (ATransfer (first 0)) ∷ [])) ≡ None
unfolding fault_of
transfer_of_freed_id = refl

transfer_of_aborted_id : fault_of [] (pair ++ (from 0 (ATransfer (with_more (first 0))) ∷ from 0 (ATransfer (let fields = next true in record fields { aborted = Some true })) ∷ from 0 (ATransfer (first 0)) ∷ [])) ≡ None
unfolding fault_of
transfer_of_aborted_id = refl

-- the ids of deliveries to the client are others than those from it
abbrev both : List Record
both =
    pair ++ (from 0 (AnAttach (let fields = receives_from q in record fields { handle = 1 }))
    ∷ write 0 (written_to_consumer 0 (codes "l") 1 Mixed First q false)
    ∷ from 0 (AFlow (let flow = gives 0 0 1 in record flow { handle = Some 1 }))
    ∷ from_with 0 (ATransfer (first 1)) hi
    ∷ carry 0 18 (let fields = first 0 in record fields { handle = 1 }) hi ∷ [])

transfer_of_id_to_client : fault_of [] (both ++ (from 0 (ATransfer (first 0)) ∷ [])) ≡ None
unfolding fault_of
transfer_of_id_to_client = refl

transfer_without_credit : fault_of [] (producer 0 q ++ (from 0 (ATransfer (first 0)) ∷ [])) ≡ Some (Detach TransferLimitExceeded)
unfolding fault_of
transfer_without_credit = refl

next_of_other_id : fault_of [] (pair ++ (from 0 (ATransfer (with_more (first 0))) ∷ from 0 (ATransfer (first 1)) ∷ [])) ≡ Some (Detach InvalidField)
unfolding fault_of
next_of_other_id = refl

next_of_same_id : fault_of [] (pair ++ (from 0 (ATransfer (with_more (first 0))) ∷ from 0 (ATransfer (first 0)) ∷ [])) ≡ None
unfolding fault_of
next_of_same_id = refl

too_large : size_fault (first 0) 16777217 ≡ Some (Detach MessageSizeExceeded)
too_large = refl

largest : size_fault (first 0) 16777216 ≡ None
largest = refl

too_large_but_aborted : size_fault (let fields = first 0 in record fields { aborted = Some true }) 16777217 ≡ None
too_large_but_aborted = refl

-- ---- what is heard

-- behind a close nothing is heard, an empty body never
behind_close : is_last_heard [] (connect 0 ++ (write 0 (written_close None) ∷ from 0 (AClose None) ∷ [])) ≡ false
unfolding is_last_heard
behind_close = refl

empty_body : is_last_heard [] (connect 0 ++ (client 0 (0 ∷ 0 ∷ 0 ∷ 8 ∷ 2 ∷ 0 ∷ 0 ∷ 0 ∷ []) ∷ [])) ≡ false
unfolding is_last_heard
empty_body = refl

-- while the client's end is awaited, only opens, closes and octets that are no frame are heard on the channel
abbrev ended : List Record
ended = join 0 ++ (write 0 (written_end 0 None) ∷ [])

end_awaited : is_last_heard [] (ended ++ (from 0 (begin_of None 100) ∷ [])) ≡ false
unfolding is_last_heard
end_awaited = refl

garbage_passed_over : is_last_heard [] (ended ++ (client 0 (0 ∷ 0 ∷ 0 ∷ 9 ∷ 2 ∷ 0 ∷ 0 ∷ 0 ∷ 0x40 ∷ []) ∷ [])) ≡ false
unfolding is_last_heard
garbage_passed_over = refl

garbage_without_channel : is_last_heard [] (ended ++ (client 0 (0 ∷ 0 ∷ 0 ∷ 9 ∷ 2 ∷ 0 ∷ 0 ∷ 0 ∷ []) ∷ [])) ≡ true
unfolding is_last_heard
garbage_without_channel = refl

close_heard : is_last_heard [] (ended ++ (from 0 (AClose None) ∷ [])) ≡ true
unfolding is_last_heard
close_heard = refl

-- the awaited end is passed over, and frees the channel
begin_on_freed_channel : is_last_heard [] (ended ++ (from 0 (AnEnd None) ∷ from 0 (begin_of None 100) ∷ [])) ≡ true
unfolding is_last_heard
begin_on_freed_channel = refl

-- while the client's detach is awaited, flows, transfers and detaches of the handle are passed over
abbrev detached : List Record
detached = producer 0 q ++ (write 0 (written_detach 0 0 true None) ∷ [])

transfer_passed_over : is_last_heard [] (detached ++ (from 0 (ATransfer (first 0)) ∷ [])) ≡ false
unfolding is_last_heard
transfer_passed_over = refl

attach_heard : is_last_heard [] (detached ++ (from 0 (AnAttach (sends_to q)) ∷ [])) ≡ true
unfolding is_last_heard
attach_heard = refl
