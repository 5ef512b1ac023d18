-- For each clause captures that break it, and nothing else; and such that are lawful though they look like it.
use Rattle.std.specs.Prelude.{◌≡◌, ℕ, List, true, false, [], ◌∷◌, ◌++◌, replicate, codes, Some, None, refl}
use Rattle.amqp_perf.specs.declared.attach.Role.TheVariants.{Sender, Receiver}
use Rattle.amqp_perf.specs.declared.attach.SenderSettleMode.TheVariants.{Settled, Mixed}
use Rattle.amqp_perf.specs.declared.attach.ReceiverSettleMode.TheVariants.{First}
use Rattle.amqp_perf.specs.Meaning.{AnAttach, AFlow, ATransfer, ADisposition, AnEnd, AClose}
use Rattle.pairing_cert.specs.declared.note.Why.TheVariants.{C, Z, N}
use Rattle.capture_form.specs.declared.records.Record.{Record}
use Rattle.capture_form.specs.declared.rules.Distribution.TheVariants.{Multicast}
use Rattle.capture_form.specs.Rules.{RuleText}
use Rattle.trace_events.specs.declared.clause.Clause.{Clause}
use Rattle.trace_events.specs.declared.clause.Clause.TheVariants.{L1, L2, L3, L4, L5, L6, L7, L8, L9, L10, L11, L12, L13, L14}
use Rattle.trace_events.specs.Written.{spoken_octets, written_open, written_begin, written_close, written_end, written_detach, written_settling}
use Rattle.trace_events.proofs.Captures.{rule, opened, lost, broken, router, paired, broken_of}
use Rattle.trace_events.proofs.Made.{from, from_with, write, to, carry, tell, open_of, begin_of, bare, sends_to, receives_from, session_flow, gives, shows, draining, first, next, with_more, as_settled, disposes, accepted, released, detach_of, q, hi, connect, join, producer, consumer, pair, sent, written_to_producer, written_to_consumer, written_refusal}

-- ---- L1

-- a second open; a frame on a connection that wasn't opened; one that is lost; a first frame that is no open
second_open : broken_of [] (connect 0 ++ (write 0 written_open ∷ [])) ≡ Some (3, L1)
unfolding broken_of
second_open = refl

not_opened : broken_of [] (write 0 written_open ∷ []) ≡ Some (0, L1)
unfolding broken_of
not_opened = refl

written_to_the_lost : broken_of [] (connect 0 ++ (lost 0 ∷ write 0 (written_close None) ∷ [])) ≡ Some (4, L1)
unfolding broken_of
written_to_the_lost = refl

close_without_open : broken_of [] (opened 0 ∷ from 0 (AClose None) ∷ write 0 (written_close None) ∷ []) ≡ Some (2, L1)
unfolding broken_of
close_without_open = refl

-- octets that are no performative, and a frame of 513 octets for a client that takes 512
no_performative : broken_of [] (connect 0 ++ (router 0 (0 ∷ 0 ∷ 0 ∷ 8 ∷ 2 ∷ 0 ∷ 0 ∷ 0 ∷ []) ∷ [])) ≡ Some (3, L1)
unfolding broken_of
no_performative = refl

too_long : broken_of [] (opened 0 ∷ from 0 (open_of 512) ∷ write 0 written_open ∷ carry 0 0 (next true) (replicate 493 0) ∷ []) ≡ Some (3, L1)
unfolding broken_of
too_long = refl

-- the longest one is broken by its own clause
just_fits : broken_of [] (opened 0 ∷ from 0 (open_of 512) ∷ write 0 written_open ∷ carry 0 0 (next true) (replicate 492 0) ∷ []) ≡ Some (3, L4)
unfolding broken_of
just_fits = refl

-- behind the client's close stands a close alone
begin_behind_close : broken_of [] (connect 0 ++ (from 0 (begin_of None 100) ∷ from 0 (AClose None) ∷ write 0 (written_begin 0) ∷ [])) ≡ Some (5, L1)
unfolding broken_of
begin_behind_close = refl

close_behind_broken : broken_of [] (connect 0 ++ (broken 0 ∷ write 0 (written_close None) ∷ [])) ≡ None
unfolding broken_of
close_behind_broken = refl

-- a close that nothing asked for is lawful
own_close : broken_of [] (connect 0 ++ (write 0 (written_close None) ∷ [])) ≡ None
unfolding broken_of
own_close = refl

-- ---- L2

begin_unasked : broken_of [] (connect 0 ++ (write 0 (written_begin 0) ∷ [])) ≡ Some (3, L2)
unfolding broken_of
begin_unasked = refl

begin_answered_twice : broken_of [] (join 0 ++ (write 0 (written_begin 0) ∷ [])) ≡ Some (5, L2)
unfolding broken_of
begin_answered_twice = refl

-- its remote-channel is another one, or its incoming-window
begin_of_other_channel : broken_of [] (connect 0 ++ (from 0 (begin_of None 100) ∷ to 0 (begin_of (Some 1) 2048) ∷ [])) ≡ Some (4, L2)
unfolding broken_of
begin_of_other_channel = refl

begin_of_other_window : broken_of [] (connect 0 ++ (from 0 (begin_of None 100) ∷ to 0 (begin_of (Some 0) 2047) ∷ [])) ≡ Some (4, L2)
unfolding broken_of
begin_of_other_window = refl

-- a begin with a remote-channel is faulty; a faulty one behind a good one takes nothing from it
begin_of_faulty : broken_of [] (connect 0 ++ (from 0 (begin_of (Some 0) 100) ∷ write 0 (written_begin 0) ∷ [])) ≡ Some (4, L2)
unfolding broken_of
begin_of_faulty = refl

begin_before_faulty : broken_of [] (connect 0 ++ (from 0 (begin_of None 100) ∷ from 0 (begin_of (Some 0) 100) ∷ write 0 (written_begin 0) ∷ [])) ≡ None
unfolding broken_of
begin_before_faulty = refl

-- ---- L3

attach_unasked : broken_of [] (join 0 ++ (write 0 (written_to_producer 0 (codes "l") 0 Mixed q) ∷ [])) ≡ Some (5, L3)
unfolding broken_of
attach_unasked = refl

attach_to_other_address : broken_of [] (join 0 ++ (from 0 (AnAttach (sends_to q)) ∷ write 0 (written_to_producer 0 (codes "l") 0 Mixed hi) ∷ [])) ≡ Some (6, L3)
unfolding broken_of
attach_to_other_address = refl

attach_of_other_name : broken_of [] (join 0 ++ (from 0 (AnAttach (sends_to q)) ∷ write 0 (written_to_producer 0 (codes "m") 0 Mixed q) ∷ [])) ≡ Some (6, L3)
unfolding broken_of
attach_of_other_name = refl

attach_of_other_mode : broken_of [] (join 0 ++ (from 0 (AnAttach (sends_to q)) ∷ write 0 (written_to_producer 0 (codes "l") 0 Settled q) ∷ [])) ≡ Some (6, L3)
unfolding broken_of
attach_of_other_mode = refl

-- a consumer of a multicast address gets the mode that it asks for, as one of any other does
attach_unsettled_to_multicast : broken_of (rule Multicast q ∷ []) (consumer 0 Mixed q) ≡ None
unfolding broken_of
attach_unsettled_to_multicast = refl

attach_settled_unasked : broken_of (rule Multicast q ∷ []) (join 0 ++ (from 0 (AnAttach (receives_from q)) ∷ write 0 (written_to_consumer 0 (codes "l") 0 Settled First q false) ∷ [])) ≡ Some (6, L3)
unfolding broken_of
attach_settled_unasked = refl

-- accepted though there is no target; refused; refused though there is nothing to refuse
attach_of_faulty : broken_of [] (join 0 ++ (from 0 (AnAttach (bare Sender (Some 0))) ∷ write 0 (written_to_producer 0 (codes "l") 0 Mixed q) ∷ [])) ≡ Some (6, L3)
unfolding broken_of
attach_of_faulty = refl

attach_refused : broken_of [] (join 0 ++ (from 0 (AnAttach (bare Sender (Some 0))) ∷ write 0 (written_refusal 0 (codes "l") 0 Receiver) ∷ write 0 (written_detach 0 0 true None) ∷ [])) ≡ None
unfolding broken_of
attach_refused = refl

attach_refused_for_nothing : broken_of [] (join 0 ++ (from 0 (AnAttach (sends_to q)) ∷ write 0 (written_refusal 0 (codes "l") 0 Receiver) ∷ [])) ≡ Some (6, L3)
unfolding broken_of
attach_refused_for_nothing = refl

-- ---- L4

transfer_without_link : broken_of [] (join 0 ++ (carry 0 0 (first 0) hi ∷ [])) ≡ Some (5, L4)
unfolding broken_of
transfer_without_link = refl

transfer_to_producer : broken_of [] (producer 0 q ++ (carry 0 0 (first 0) hi ∷ [])) ≡ Some (7, L4)
unfolding broken_of
transfer_to_producer = refl

transfer_aborted : broken_of [] (sent ++ (carry 1 16 (let fields = first 0 in record fields { aborted = Some true }) hi ∷ [])) ≡ Some (17, L4)
unfolding broken_of
transfer_aborted = refl

-- ---- L5

transfer_without_credit : broken_of [] (pair ++ (from_with 0 (ATransfer (first 0)) hi ∷ carry 1 15 (first 0) hi ∷ [])) ≡ Some (16, L5)
unfolding broken_of
transfer_without_credit = refl

transfer_of_other_id : broken_of [] (sent ++ (carry 1 16 (first 1) hi ∷ [])) ≡ Some (17, L5)
unfolding broken_of
transfer_of_other_id = refl

-- ---- L6

-- the first octet of a delivery is on its way
abbrev begun : List Record
begun = sent ++ (carry 1 16 (with_more (first 0)) (104 ∷ []) ∷ [])

next_of_other_note : broken_of [] (begun ++ (carry 1 15 (next false) (105 ∷ []) ∷ [])) ≡ Some (18, L6)
unfolding broken_of
next_of_other_note = refl

next_of_other_id : broken_of [] (begun ++ (carry 1 16 (first 1) (105 ∷ []) ∷ [])) ≡ Some (18, L6)
unfolding broken_of
next_of_other_id = refl

next_settled : broken_of [] (begun ++ (carry 1 16 (as_settled (next false)) (105 ∷ []) ∷ [])) ≡ Some (18, L6)
unfolding broken_of
next_settled = refl

-- the first one's id and flag may be said again; an absent flag is false
next_said_again : broken_of [] (begun ++ (carry 1 16 (first 0) (105 ∷ []) ∷ [])) ≡ None
unfolding broken_of
next_said_again = refl

next_of_absent_flag : broken_of [] (sent ++ (carry 1 16 (let fields = with_more (first 0) in record fields { settled = None }) (104 ∷ []) ∷ carry 1 16 (let fields = next false in record fields { settled = Some false }) (105 ∷ []) ∷ [])) ≡ None
unfolding broken_of
next_of_absent_flag = refl

-- ---- L7

transfer_without_note : broken_of [] (sent ++ (to 1 (ATransfer (first 0)) ∷ [])) ≡ Some (17, L7)
unfolding broken_of
transfer_without_note = refl

transfer_settled : broken_of [] (sent ++ (carry 1 16 (as_settled (first 0)) hi ∷ [])) ≡ Some (17, L7)
unfolding broken_of
transfer_settled = refl

transfer_of_other_format : broken_of [] (sent ++ (carry 1 16 (let fields = first 0 in record fields { message_format = Some 1 }) hi ∷ [])) ≡ Some (17, L7)
unfolding broken_of
transfer_of_other_format = refl

-- an absent message-format is 0, an absent settled flag false
transfer_of_absent_fields : broken_of [] (sent ++ (carry 1 16 (let fields = first 0 in record fields { message_format = None; settled = None }) hi ∷ [])) ≡ None
unfolding broken_of
transfer_of_absent_fields = refl

transfer_of_incomplete : broken_of [] (pair ++ (from 1 (AFlow (gives 0 0 10)) ∷ from_with 0 (ATransfer (with_more (first 0))) hi ∷ carry 1 16 (first 0) hi ∷ [])) ≡ Some (17, L7)
unfolding broken_of
transfer_of_incomplete = refl

-- the address had no consumer when the delivery was complete
transfer_of_gone : broken_of [] (producer 0 q ++ (to 0 (AFlow (shows 0 0 0 0)) ∷ []) ++ consumer 1 Mixed q ++ (from 1 (AFlow (gives 0 0 10)) ∷ to 0 (AFlow (shows 0 0 0 250)) ∷ from 1 (detach_of true) ∷ write 1 (written_detach 0 0 true None) ∷ from_with 0 (ATransfer (first 0)) hi ∷ from 1 (AnAttach (receives_from q)) ∷ write 1 (written_to_consumer 0 (codes "l") 0 Mixed First q false) ∷ from 1 (AFlow (gives 0 0 10)) ∷ carry 1 19 (first 0) hi ∷ [])) ≡ Some (23, L7)
unfolding broken_of
transfer_of_gone = refl

-- ---- L8

transfer_of_other_payload : broken_of [] (sent ++ (carry 1 16 (first 0) (codes "ho") ∷ [])) ≡ Some (17, L8)
unfolding broken_of
transfer_of_other_payload = refl

transfer_cut_short : broken_of [] (sent ++ (carry 1 16 (first 0) (104 ∷ []) ∷ [])) ≡ Some (17, L8)
unfolding broken_of
transfer_cut_short = refl

transfer_too_long : broken_of [] (begun ++ (carry 1 16 (next true) (105 ∷ 105 ∷ []) ∷ [])) ≡ Some (18, L8)
unfolding broken_of
transfer_too_long = refl

-- ---- L9

-- an anycast delivery goes to one consumer
second_consumer : broken_of [] (sent ++ (carry 1 16 (first 0) hi ∷ carry 1 16 (first 1) hi ∷ [])) ≡ Some (18, L9)
unfolding broken_of
second_consumer = refl

-- of two deliveries the second goes first
out_of_order : broken_of [] (sent ++ (from_with 0 (ATransfer (first 1)) hi ∷ carry 1 17 (first 0) hi ∷ carry 1 16 (first 1) hi ∷ [])) ≡ Some (19, L9)
unfolding broken_of
out_of_order = refl

-- a multicast delivery goes to each once, and only to those that had credit when it was complete
abbrev all_q : List Record
all_q =
    producer 0 q ++ consumer 1 Settled q
    ++ (to 0 (AFlow (shows 0 0 0 250)) ∷ from 1 (AFlow (gives 0 0 2)) ∷ from_with 0 (ATransfer (first 0)) hi ∷ [])

copied_twice : broken_of (rule Multicast q ∷ []) (all_q ++ (carry 1 16 (as_settled (first 0)) hi ∷ carry 1 16 (as_settled (first 1)) hi ∷ [])) ≡ Some (18, L9)
unfolding broken_of
copied_twice = refl

copied_without_due : broken_of (rule Multicast q ∷ []) (producer 0 q ++ consumer 1 Settled q ++ (to 0 (AFlow (shows 0 0 0 250)) ∷ from_with 0 (ATransfer (first 0)) hi ∷ from 1 (AFlow (gives 0 0 2)) ∷ carry 1 15 (as_settled (first 0)) hi ∷ [])) ≡ Some (17, L9)
unfolding broken_of
copied_without_due = refl

-- ---- L10

flow_without_session : broken_of [] (connect 0 ++ (to 0 (AFlow (session_flow 0 2048 0 2147483647)) ∷ [])) ≡ Some (3, L10)
unfolding broken_of
flow_without_session = refl

flow_without_link : broken_of [] (join 0 ++ (to 0 (AFlow (shows 0 0 0 0)) ∷ [])) ≡ Some (5, L10)
unfolding broken_of
flow_without_link = refl

flow_of_other_id : broken_of [] (join 0 ++ (to 0 (AFlow (session_flow 1 2048 0 2147483647)) ∷ [])) ≡ Some (5, L10)
unfolding broken_of
flow_of_other_id = refl

flow_of_session : broken_of [] (join 0 ++ (to 0 (AFlow (session_flow 0 2048 0 2147483647)) ∷ [])) ≡ None
unfolding broken_of
flow_of_session = refl

flow_with_drain : broken_of [] (join 0 ++ (to 0 (AFlow (draining (session_flow 0 2048 0 2147483647))) ∷ [])) ≡ Some (5, L10)
unfolding broken_of
flow_with_drain = refl

-- credit of more than 250, and credit though nobody takes deliveries
too_much_credit : broken_of [] (producer 0 q ++ consumer 1 Mixed q ++ (to 0 (AFlow (shows 0 0 0 251)) ∷ [])) ≡ Some (14, L10)
unfolding broken_of
too_much_credit = refl

credit_for_nobody : broken_of [] (producer 0 q ++ (to 0 (AFlow (shows 0 0 0 250)) ∷ [])) ≡ Some (7, L10)
unfolding broken_of
credit_for_nobody = refl

-- one delivery is undecided, so 249 fill the capacity, but more than 125 are left
credit_too_soon : broken_of [] (sent ++ (to 0 (AFlow (shows 1 0 1 250)) ∷ [])) ≡ Some (17, L10)
unfolding broken_of
credit_too_soon = refl

credit_as_it_stands : broken_of [] (sent ++ (to 0 (AFlow (shows 1 0 1 249)) ∷ [])) ≡ None
unfolding broken_of
credit_as_it_stands = refl

-- credit given back though the delivery-count doesn't move, and though a delivery waits
drained_without_count : broken_of [] (pair ++ (from 1 (AFlow (draining (gives 0 0 5))) ∷ to 1 (AFlow (draining (shows 0 0 0 0))) ∷ [])) ≡ Some (16, L10)
unfolding broken_of
drained_without_count = refl

drained_though_it_waits : broken_of [] (pair ++ (from_with 0 (ATransfer (first 0)) hi ∷ from 1 (AFlow (draining (gives 0 0 5))) ∷ to 1 (AFlow (draining (shows 0 0 5 0))) ∷ [])) ≡ Some (17, L10)
unfolding broken_of
drained_though_it_waits = refl

drained_unasked : broken_of [] (pair ++ (from 1 (AFlow (gives 0 0 5)) ∷ to 1 (AFlow (shows 0 0 5 0)) ∷ [])) ≡ Some (16, L10)
unfolding broken_of
drained_unasked = refl

-- drain stands in each flow while the link drains
count_without_drain : broken_of [] (pair ++ (from 1 (AFlow (draining (gives 0 0 5))) ∷ to 1 (AFlow (shows 0 0 0 5)) ∷ [])) ≡ Some (16, L10)
unfolding broken_of
count_without_drain = refl

-- ---- L11

outcome_invented : broken_of [] (sent ++ (carry 1 16 (first 0) hi ∷ tell 0 C (disposes Receiver 0 true accepted) ∷ [])) ≡ Some (18, L11)
unfolding broken_of
outcome_invented = refl

-- the consumer accepted, and another state is told; or its reason is another; or none is noted
abbrev decided : List Record
decided = sent ++ (carry 1 16 (first 0) hi ∷ from 1 (ADisposition (disposes Receiver 0 false accepted)) ∷ [])

outcome_of_other_state : broken_of [] (decided ++ (tell 0 C (disposes Receiver 0 true released) ∷ [])) ≡ Some (19, L11)
unfolding broken_of
outcome_of_other_state = refl

outcome_of_other_reason : broken_of [] (decided ++ (tell 0 Z (disposes Receiver 0 true accepted) ∷ [])) ≡ Some (19, L11)
unfolding broken_of
outcome_of_other_reason = refl

outcome_without_note : broken_of [] (decided ++ (to 0 (ADisposition (disposes Receiver 0 true accepted)) ∷ [])) ≡ Some (19, L11)
unfolding broken_of
outcome_without_note = refl

outcome_unsettled : broken_of [] (decided ++ (tell 0 C (disposes Receiver 0 false accepted) ∷ [])) ≡ Some (19, L11)
unfolding broken_of
outcome_unsettled = refl

outcome_of_two : broken_of [] (decided ++ (tell 0 C (let fields = disposes Receiver 0 true accepted in record fields { last = Some 1 }) ∷ [])) ≡ Some (19, L11)
unfolding broken_of
outcome_of_two = refl

-- a delivery that its producer has settled is told nothing
outcome_of_settled : broken_of [] (sent ++ (from 0 (ADisposition (disposes Sender 0 true None)) ∷ carry 1 16 (first 0) hi ∷ from 1 (ADisposition (disposes Receiver 0 false accepted)) ∷ tell 0 C (disposes Receiver 0 true accepted) ∷ [])) ≡ Some (20, L11)
unfolding broken_of
outcome_of_settled = refl

-- released though a consumer is there
released_though_it_waits : broken_of [] (pair ++ (from_with 0 (ATransfer (first 0)) hi ∷ tell 0 N (disposes Receiver 0 true released) ∷ [])) ≡ Some (16, L11)
unfolding broken_of
released_though_it_waits = refl

-- ---- L12

settled_undecided : broken_of [] (sent ++ (carry 1 16 (first 0) hi ∷ write 1 (written_settling 0 0) ∷ [])) ≡ Some (18, L12)
unfolding broken_of
settled_undecided = refl

settled_before_told : broken_of [] (decided ++ (write 1 (written_settling 0 0) ∷ [])) ≡ Some (19, L12)
unfolding broken_of
settled_before_told = refl

settled_twice : broken_of [] (decided ++ (tell 0 C (disposes Receiver 0 true accepted) ∷ write 1 (written_settling 0 0) ∷ write 1 (written_settling 0 0) ∷ [])) ≡ Some (21, L12)
unfolding broken_of
settled_twice = refl

-- the consumer settles what it has decided before: nothing is left to settle
settled_by_consumer : broken_of [] (decided ++ (tell 0 C (disposes Receiver 0 true accepted) ∷ from 1 (ADisposition (disposes Receiver 0 true None)) ∷ write 1 (written_settling 0 0) ∷ [])) ≡ Some (21, L12)
unfolding broken_of
settled_by_consumer = refl

-- ---- L13

detached_twice : broken_of [] (producer 0 q ++ (from 0 (detach_of true) ∷ write 0 (written_detach 0 0 true None) ∷ write 0 (written_detach 0 0 true None) ∷ [])) ≡ Some (9, L13)
unfolding broken_of
detached_twice = refl

-- a second detach of the client neither spends nor doubles the answer that is owed
detach_owed_once : broken_of [] (producer 0 q ++ (from 0 (detach_of true) ∷ from 0 (detach_of true) ∷ write 0 (written_detach 0 0 true None) ∷ write 0 (written_detach 0 0 true None) ∷ [])) ≡ Some (10, L13)
unfolding broken_of
detach_owed_once = refl

detach_without_link : broken_of [] (join 0 ++ (from 0 (detach_of true) ∷ write 0 (written_detach 0 0 true None) ∷ [])) ≡ Some (6, L13)
unfolding broken_of
detach_without_link = refl

-- a refusal owes its detach from the Out attach on, once
detach_before_refusal : broken_of [] (join 0 ++ (from 0 (AnAttach (bare Sender (Some 0))) ∷ write 0 (written_detach 0 0 true None) ∷ write 0 (written_refusal 0 (codes "l") 0 Receiver) ∷ [])) ≡ Some (6, L13)
unfolding broken_of
detach_before_refusal = refl

refusal_detached_twice : broken_of [] (join 0 ++ (from 0 (AnAttach (bare Sender (Some 0))) ∷ write 0 (written_refusal 0 (codes "l") 0 Receiver) ∷ write 0 (written_detach 0 0 true None) ∷ write 0 (written_detach 0 0 true None) ∷ [])) ≡ Some (8, L13)
unfolding broken_of
refusal_detached_twice = refl

end_without_session : broken_of [] (connect 0 ++ (write 0 (written_end 0 None) ∷ [])) ≡ Some (3, L13)
unfolding broken_of
end_without_session = refl

ended_twice : broken_of [] (join 0 ++ (from 0 (AnEnd None) ∷ write 0 (written_end 0 None) ∷ write 0 (written_end 0 None) ∷ [])) ≡ Some (7, L13)
unfolding broken_of
ended_twice = refl

end_owed_once : broken_of [] (join 0 ++ (from 0 (AnEnd None) ∷ from 0 (AnEnd None) ∷ write 0 (written_end 0 None) ∷ [])) ≡ None
unfolding broken_of
end_owed_once = refl

-- an end and a detach that nothing asked for are lawful
own_end : broken_of [] (producer 0 q ++ (write 0 (written_detach 0 0 true None) ∷ write 0 (written_end 0 None) ∷ [])) ≡ None
unfolding broken_of
own_end = refl

-- ---- L14

begin_with_note : broken_of [] (connect 0 ++ (from 0 (begin_of None 100) ∷ paired 0 1 (spoken_octets (written_begin 0)) ∷ [])) ≡ Some (4, L14)
unfolding broken_of
begin_with_note = refl

settling_with_note : broken_of [] (decided ++ (tell 0 C (disposes Receiver 0 true accepted) ∷ paired 1 16 (spoken_octets (written_settling 0 0)) ∷ [])) ≡ Some (20, L14)
unfolding broken_of
settling_with_note = refl

-- ---- each clause

-- each is broken by one of these captures: a clause of which no table has a row would be met by all, and have no line here
each_breaks : (clause : Clause) → (rules : List RuleText) × (records : List Record) × (number : ℕ) × (broken_of rules records ≡ Some (number, clause))
each_breaks L1 = (_, _, _, not_opened)
each_breaks L2 = (_, _, _, begin_unasked)
each_breaks L3 = (_, _, _, attach_unasked)
each_breaks L4 = (_, _, _, transfer_without_link)
each_breaks L5 = (_, _, _, transfer_without_credit)
each_breaks L6 = (_, _, _, next_of_other_note)
each_breaks L7 = (_, _, _, transfer_without_note)
each_breaks L8 = (_, _, _, transfer_of_other_payload)
each_breaks L9 = (_, _, _, second_consumer)
each_breaks L10 = (_, _, _, flow_without_session)
each_breaks L11 = (_, _, _, outcome_invented)
each_breaks L12 = (_, _, _, settled_undecided)
each_breaks L13 = (_, _, _, detached_twice)
each_breaks L14 = (_, _, _, begin_with_note)
