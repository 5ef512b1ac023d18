-- Captures that tell one reading of a rule from the other.
use Rattle.std.specs.Prelude.{◌≡◌, ℕ, List, true, false, [], ◌∷◌, ◌++◌, ◌+◌, ◌-◌, replicate, codes, Option, Some, None, refl}
use Rattle.amqp_perf.specs.declared.attach.Role.TheVariants.{Sender, Receiver}
use Rattle.amqp_perf.specs.declared.attach.SenderSettleMode.TheVariants.{Settled, Mixed}
use Rattle.amqp_perf.specs.declared.attach.ReceiverSettleMode.TheVariants.{First, Second}
use Rattle.amqp_perf.specs.Meaning.{ABegin, AnAttach, AFlow, ATransfer, ADisposition, ADetach, AClose}
use Rattle.pairing_cert.specs.declared.note.Why.TheVariants.{C, Z, S}
use Rattle.capture_form.specs.declared.records.Record.{Record}
use Rattle.capture_form.specs.declared.rules.Distribution.TheVariants.{Closest, Balanced, Multicast}
use Rattle.trace_events.specs.declared.clause.Clause.TheVariants.{L3, L4, L5, L7, L10, L11}
use Rattle.trace_events.specs.declared.fault.Fault.TheVariants.{Detach}
use Rattle.amqp_perf.specs.declared.condition.ErrorCondition.TheVariants.{InvalidField}
use Rattle.capture_form.specs.Addresses.{distribution, fits}
use Rattle.flow_counts.specs.Covers.{covers}
use Rattle.trace_events.specs.Written.{written_open, written_begin, written_close, written_detach, written_settling}
use Rattle.trace_events.proofs.Captures.{rule, opened, broken_of, fault_of, unmarked}
use Rattle.trace_events.proofs.Made.{from, from_with, write, to, carry, tell, open_of, begin_of, bare, sends_to, receives_from, session_flow, gives, shows, draining, first, next, with_more, as_settled, disposes, accepted, released, detach_of, q, hi, connect, join, producer, consumer, pair, sent, terminus, written_to_producer, written_to_consumer}

-- ---- sessions

-- the opening is the client's last begin, though a faulty one: the ids of its transfers follow that one
abbrev opened_again : List Record
opened_again =
    connect 0 ++ (from 0 (begin_of None 100) ∷ from 0 (ABegin (record { remote_channel = Some 0; next_outgoing_id = 7; incoming_window = 100; outgoing_window = 100; handle_max = None }))
    ∷ write 0 (written_begin 0) ∷ [])

opening_is_last : broken_of [] (opened_again ++ (to 0 (AFlow (session_flow 7 2048 0 2147483647)) ∷ [])) ≡ None
unfolding broken_of
opening_is_last = refl

opening_is_not_first : broken_of [] (opened_again ++ (to 0 (AFlow (session_flow 0 2048 0 2147483647)) ∷ [])) ≡ Some (6, L10)
unfolding broken_of
opening_is_not_first = refl

-- faulty transfers and those that are passed over count in the session: three have come
transfers_all_count : broken_of [] (producer 0 q ++ (from 0 (ATransfer (first 0)) ∷ from 0 (ATransfer (first 1)) ∷ write 0 (written_detach 0 0 true None) ∷ from 0 (ATransfer (first 2)) ∷ to 0 (AFlow (session_flow 3 2048 0 2147483647)) ∷ [])) ≡ None
unfolding broken_of
transfers_all_count = refl

-- what no clause speaks of is free: handle-max of a begin, settle modes and errors of a refusal, a flow's echo
free_fields : broken_of [] (connect 0 ++ (from 0 (begin_of None 100) ∷ to 0 (ABegin (record { remote_channel = Some 0; next_outgoing_id = 5; incoming_window = 2048; outgoing_window = 0; handle_max = None })) ∷ from 0 (AnAttach (bare Sender (Some 0))) ∷ to 0 (AnAttach (let fields = bare Receiver (Some 3) in record fields { snd_settle_mode = Some Settled; rcv_settle_mode = Some Second })) ∷ to 0 (ADetach (record { handle = 0; closed = None; error = Some (codes "x:y") })) ∷ to 0 (AFlow (let flow = session_flow 0 2048 5 2147483647 in record flow { echo = Some true; link_credit = Some 9 })) ∷ [])) ≡ None
unfolding broken_of
free_fields = refl

-- ---- links

-- a made-up address has the number of the attach, whatever address stands beside; the rules hold for it
abbrev made_up : List Record
made_up =
    join 0 ++ (from 0 (AnAttach (let fields = bare Receiver None in record fields { source = Some (terminus (Some q) (Some true)) })) ∷ [])

made_up_address : broken_of [] (made_up ++ (write 0 (written_to_consumer 0 (codes "l") 0 Mixed First (codes "dyn/5") true) ∷ [])) ≡ None
unfolding broken_of
made_up_address = refl

made_up_by_name : broken_of [] (made_up ++ (write 0 (written_to_consumer 0 (codes "l") 0 Mixed First q true) ∷ [])) ≡ Some (6, L3)
unfolding broken_of
made_up_by_name = refl

made_up_multicast : broken_of (rule Multicast (codes "dyn") ∷ []) (made_up ++ (write 0 (written_to_consumer 0 (codes "l") 0 Settled First (codes "dyn/5") true) ∷ [])) ≡ Some (6, L3)
unfolding broken_of
made_up_multicast = refl

-- a delivery that is in progress dies with its link: the next link begins afresh, from the client and to it
died_with_link : fault_of [] (pair ++ (from 0 (ATransfer (with_more (first 0))) ∷ from 0 (detach_of true) ∷ write 0 (written_detach 0 0 true None) ∷ from 0 (AnAttach (sends_to q)) ∷ write 0 (written_to_producer 0 (codes "l") 0 Mixed q) ∷ to 0 (AFlow (shows 1 0 0 250)) ∷ from 0 (ATransfer (next false)) ∷ [])) ≡ Some (Detach InvalidField)
unfolding fault_of
died_with_link = refl

sent_afresh : broken_of [] (sent ++ (carry 1 16 (with_more (first 0)) (104 ∷ []) ∷ from 1 (detach_of true) ∷ write 1 (written_detach 0 0 true None) ∷ from 1 (AnAttach (receives_from q)) ∷ write 1 (written_to_consumer 0 (codes "l") 0 Mixed First q false) ∷ from 1 (AFlow (gives 1 0 1)) ∷ from_with 0 (ATransfer (first 1)) hi ∷ carry 1 23 (next false) hi ∷ [])) ≡ Some (24, L5)
unfolding broken_of
sent_afresh = refl

-- ---- incoming deliveries

-- an aborted delivery has begun and taken its credit; a note that names it names nothing that may be carried
abbrev aborted : List Record
aborted =
    pair ++ (from 1 (AFlow (gives 0 0 10)) ∷ from_with 0 (ATransfer (with_more (first 0))) hi
    ∷ from 0 (ATransfer (let fields = next true in record fields { aborted = Some true })) ∷ [])

aborted_counts : broken_of [] (aborted ++ (to 0 (AFlow (shows 2 0 1 249)) ∷ [])) ≡ None
unfolding broken_of
aborted_counts = refl

aborted_goes_nowhere : broken_of [] (aborted ++ (carry 1 16 (first 0) hi ∷ [])) ≡ Some (18, L7)
unfolding broken_of
aborted_goes_nowhere = refl

-- a producer's link that is pre-settled settles nothing; a flag on a transfer does
abbrev settled_producer : List Record
settled_producer =
    join 0 ++ (from 0 (AnAttach (let fields = sends_to q in record fields { snd_settle_mode = Some Settled }))
    ∷ write 0 (written_to_producer 0 (codes "l") 0 Settled q) ∷ []) ++ consumer 1 Settled q
    ++ (to 0 (AFlow (shows 0 0 0 250)) ∷ from 1 (AFlow (gives 0 0 10)) ∷ [])

link_settles_nothing : broken_of [] (settled_producer ++ (from_with 0 (ATransfer (first 0)) hi ∷ carry 1 16 (as_settled (first 0)) hi ∷ tell 0 S (disposes Receiver 0 true accepted) ∷ [])) ≡ None
unfolding broken_of
link_settles_nothing = refl

flag_settles : broken_of [] (settled_producer ++ (from_with 0 (ATransfer (as_settled (first 0))) hi ∷ carry 1 16 (as_settled (first 0)) hi ∷ tell 0 S (disposes Receiver 0 true accepted) ∷ [])) ≡ Some (18, L11)
unfolding broken_of
flag_settles = refl

-- ---- what consumers decide

abbrev state_received : Option (List ℕ)
state_received = Some (0x00 ∷ 0x53 ∷ 0x23 ∷ 0xC0 ∷ 0x03 ∷ 0x02 ∷ 0x43 ∷ 0x43 ∷ [])

-- settled with a state that is not terminal: decided without state. Unsettled, it decides nothing
settled_without_outcome : broken_of [] (sent ++ (carry 1 16 (first 0) hi ∷ from 1 (ADisposition (disposes Receiver 0 true state_received)) ∷ tell 0 C (disposes Receiver 0 true None) ∷ [])) ≡ None
unfolding broken_of
settled_without_outcome = refl

received_is_no_decision : broken_of [] (sent ++ (carry 1 16 (first 0) hi ∷ from 1 (ADisposition (disposes Receiver 0 false state_received)) ∷ tell 0 C (disposes Receiver 0 true None) ∷ [])) ≡ Some (19, L11)
unfolding broken_of
received_is_no_decision = refl

-- the first decision counts
first_decision : broken_of [] (sent ++ (carry 1 16 (first 0) hi ∷ from 1 (ADisposition (disposes Receiver 0 false released)) ∷ from 1 (ADisposition (disposes Receiver 0 true accepted)) ∷ tell 0 C (disposes Receiver 0 true released) ∷ [])) ≡ None
unfolding broken_of
first_decision = refl

-- once the link is over nothing decides: the outcome is that of the link's end
decided_too_late : broken_of [] (sent ++ (carry 1 16 (first 0) hi ∷ from 1 (detach_of true) ∷ write 1 (written_detach 0 0 true None) ∷ from 1 (ADisposition (disposes Receiver 0 true accepted)) ∷ tell 0 C (disposes Receiver 0 true accepted) ∷ [])) ≡ Some (21, L11)
unfolding broken_of
decided_too_late = refl

-- a settling waits for the outcome, but not where the producer settled, or is gone
settled_for_settled : broken_of [] (sent ++ (from 0 (ADisposition (disposes Sender 0 true None)) ∷ carry 1 16 (first 0) hi ∷ from 1 (ADisposition (disposes Receiver 0 false accepted)) ∷ write 1 (written_settling 0 0) ∷ [])) ≡ None
unfolding broken_of
settled_for_settled = refl

settled_for_gone : broken_of [] (sent ++ (carry 1 16 (first 0) hi ∷ from 0 (AClose None) ∷ write 0 (written_close None) ∷ from 1 (ADisposition (disposes Receiver 0 false accepted)) ∷ write 1 (written_settling 0 0) ∷ [])) ≡ None
unfolding broken_of
settled_for_gone = refl

-- a last id that equals the first is one id
last_equals_first : broken_of [] (sent ++ (carry 1 16 (first 0) hi ∷ from 1 (ADisposition (disposes Receiver 0 true accepted)) ∷ tell 0 C (let fields = disposes Receiver 0 true accepted in record fields { last = Some 0 }) ∷ [])) ≡ None
unfolding broken_of
last_equals_first = refl

-- a producer that takes 512 octets is told a rejection whose frame has 512 by its state, one octet more by its code alone;
-- the shortest frame counts
abbrev rejected : ℕ → Option (List ℕ)
rejected n = Some ((0x00 ∷ 0x53 ∷ 0x25 ∷ 0xD0 ∷ 0x00 ∷ 0x00 ∷ 0x01 ∷ n ∷ 0x00 ∷ 0x00 ∷ 0x00 ∷ 0x01 ∷ 0xB0 ∷ 0x00 ∷ 0x00 ∷ 0x01 ∷ []) ++ ((n - 9) ∷ []) ++ replicate ((256 + n) - 9) 7)

abbrev small_producer : ℕ → List Record
small_producer n =
    opened 0 ∷ from 0 (open_of 512) ∷ write 0 written_open ∷ from 0 (begin_of None 100) ∷ write 0 (written_begin 0)
    ∷ from 0 (AnAttach (sends_to q)) ∷ write 0 (written_to_producer 0 (codes "l") 0 Mixed q) ∷ [] ++ consumer 1 Mixed q
    ++ (to 0 (AFlow (shows 0 0 0 250)) ∷ from 1 (AFlow (gives 0 0 10)) ∷ from_with 0 (ATransfer (first 0)) hi ∷ carry 1 16 (first 0) hi
    ∷ from 1 (ADisposition (disposes Receiver 0 true (rejected n))) ∷ [])

abbrev bare_rejected : Option (List ℕ)
bare_rejected = Some (0x00 ∷ 0x53 ∷ 0x25 ∷ 0x45 ∷ [])

state_fits : broken_of [] (small_producer 224 ++ (tell 0 C (disposes Receiver 0 true (rejected 224)) ∷ [])) ≡ None
unfolding broken_of
state_fits = refl

state_fits_and_is_cut : broken_of [] (small_producer 224 ++ (tell 0 Z (disposes Receiver 0 true bare_rejected) ∷ [])) ≡ Some (19, L11)
unfolding broken_of
state_fits_and_is_cut = refl

state_is_cut : broken_of [] (small_producer 225 ++ (tell 0 Z (disposes Receiver 0 true bare_rejected) ∷ [])) ≡ None
unfolding broken_of
state_is_cut = refl

-- ---- credit

-- each flow with drain and link-credit 0 is a drain answer: nothing is left behind it, though it was an echo of none
drain_of_nothing : broken_of [] (sent ++ (from 1 (AFlow (draining (gives 0 0 0))) ∷ to 1 (AFlow (draining (shows 0 0 0 0))) ∷ carry 1 16 (first 0) hi ∷ [])) ≡ Some (19, L5)
unfolding broken_of
drain_of_nothing = refl

-- a flow of the client without link-credit leaves credit and drain as they are
flow_without_credit : broken_of [] (pair ++ (from 1 (AFlow (draining (gives 0 0 5))) ∷ from 1 (AFlow (let flow = session_flow 0 100 0 100 in record flow { handle = Some 0 })) ∷ to 1 (AFlow (draining (shows 0 0 5 0))) ∷ [])) ≡ None
unfolding broken_of
flow_without_credit = refl

-- ---- addresses and ranges

-- a prefix fits what equals it and what goes on behind '/' or '.'; the longest counts, wherever it stands
fitting : (fits (codes "a/b") (codes "a/b") ≡ true) × (fits (codes "a") (codes "a/b") ≡ true) × (fits (codes "a") (codes "a.b") ≡ true) × (fits (codes "a") (codes "ab") ≡ false) × (fits (codes "a/b") (codes "a") ≡ false)
fitting = (refl, refl, refl, refl, refl)

longest : distribution (unmarked (rule Closest (codes "a") ∷ rule Multicast (codes "a/b") ∷ rule Balanced (codes "a/b/c/d") ∷ [])) (codes "a/b/c") ≡ Multicast
longest = refl

no_rule : distribution (unmarked (rule Closest (codes "a") ∷ [])) (codes "b") ≡ Balanced
no_rule = refl

-- a range goes round; one that goes backwards covers nothing
ranges : (covers 4294967295 1 0 ≡ true) × (covers 4294967295 1 1 ≡ true) × (covers 4294967295 1 2 ≡ false) × (covers 5 2 5 ≡ false) × (covers 5 2 3 ≡ false)
ranges = (refl, refl, refl, refl, refl)

-- a flow on a handle whose detach is awaited moves the session's window: another link of the session has none left
window_of_awaiting : broken_of [] (pair ++ (from 1 (AnAttach (let fields = receives_from q in record fields { handle = 1 })) ∷ write 1 (written_to_consumer 0 (codes "l") 1 Mixed First q false) ∷ write 1 (written_detach 0 1 true None) ∷ from 1 (AFlow (gives 0 0 10)) ∷ from 1 (AFlow (let flow = gives 0 0 5 in record flow { handle = Some 1; incoming_window = 0 })) ∷ from_with 0 (ATransfer (first 0)) hi ∷ carry 1 20 (first 0) hi ∷ [])) ≡ Some (21, L4)
unfolding broken_of
window_of_awaiting = refl
