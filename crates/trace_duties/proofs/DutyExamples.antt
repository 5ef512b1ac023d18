-- For each duty of a router lawful captures that neglect it, and no other; and such that keep all.
use Rattle.std.specs.Prelude.{◌≡◌, ℕ, List, true, false, [], ◌∷◌, ◌++◌, replicate, codes, Some, None, refl}
use Rattle.amqp_perf.specs.declared.attach.Role.TheVariants.{Sender, Receiver}
use Rattle.amqp_perf.specs.declared.attach.SenderSettleMode.TheVariants.{Settled, Mixed}
use Rattle.amqp_perf.specs.declared.attach.ReceiverSettleMode.TheVariants.{First}
use Rattle.amqp_perf.specs.declared.condition.ErrorCondition.TheVariants.{FramingError, NotAllowed, InvalidField, UnattachedHandle, TransferLimitExceeded}
use Rattle.amqp_perf.specs.Meaning.{AnAttach, AFlow, ATransfer, ADisposition, AnEnd, AClose}
use Rattle.pairing_cert.specs.declared.note.Why.TheVariants.{C, S}
use Rattle.capture_form.specs.declared.records.Record.{Record}
use Rattle.capture_form.specs.declared.rules.Distribution.TheVariants.{Closest, Multicast}
use Rattle.trace_events.specs.Written.{written_open, written_begin, written_close, written_end, written_detach, written_settling}
use Rattle.trace_events.proofs.Captures.{rule, opened, lost, broken}
use Rattle.trace_duties.proofs.Captures.{diligence_of, neglected_of, is_window_left_behind}
use Rattle.trace_duties.proofs.Duties.{Waiting, Progress, Outcome, Credit, Drain, Copies, Settling, Answer, Pick, NothingElse}
use Rattle.trace_events.proofs.Made.{from, from_with, write, to, carry, tell, open_of, begin_of, bare, receives_from, session_flow, gives, shows, draining, echoing, first, next, with_more, as_settled, disposes, accepted, detach_of, q, hi, connect, join, terminus, producer, consumer, pair, sent, sent_by, written_to_consumer, written_refusal}

-- ---- each neglected alone

-- a delivery waits, and the consumer has credit
not_sent : neglected_of [] sent ≡ Waiting ∷ []
unfolding neglected_of
not_sent = refl

-- of 600 octets the first frame of 512 takes 487; there is window for the next
abbrev small_frames : List Record
small_frames =
    producer 0 q ++ (opened 1 ∷ from 1 (open_of 512) ∷ write 1 written_open ∷ from 1 (begin_of None 1) ∷ write 1 (written_begin 0)
    ∷ from 1 (AnAttach (receives_from q)) ∷ write 1 (written_to_consumer 0 (codes "l") 0 Mixed First q false)
    ∷ to 0 (AFlow (shows 0 0 0 250)) ∷ from 1 (AFlow (gives 0 0 10)) ∷ from_with 0 (ATransfer (first 0)) (replicate 600 7)
    ∷ carry 1 16 (with_more (first 0)) (replicate 487 7) ∷ [])

not_gone_on : neglected_of [] small_frames ≡ Progress ∷ []
unfolding neglected_of
not_gone_on = refl

gone_on : neglected_of [] (small_frames ++ (carry 1 16 (next false) (replicate 113 7) ∷ [])) ≡ []
unfolding neglected_of
gone_on = refl

-- the consumer has decided, and its outcome isn't told; or it is told, and the consumer waits for the settling
abbrev decided : List Record
decided = sent ++ (carry 1 16 (first 0) hi ∷ from 1 (ADisposition (disposes Receiver 0 false accepted)) ∷ [])

not_told : neglected_of [] decided ≡ Outcome ∷ []
unfolding neglected_of
not_told = refl

not_settled : neglected_of [] (decided ++ (tell 0 C (disposes Receiver 0 true accepted) ∷ [])) ≡ Settling ∷ []
unfolding neglected_of
not_settled = refl

settled : neglected_of [] (decided ++ (tell 0 C (disposes Receiver 0 true accepted) ∷ write 1 (written_settling 0 0) ∷ [])) ≡ []
unfolding neglected_of
settled = refl

-- the producer has no credit, though there is a consumer
not_topped_up : neglected_of [] (producer 0 q ++ consumer 1 Mixed q) ≡ Credit ∷ []
unfolding neglected_of
not_topped_up = refl

-- 1024 transfers have come, one more than may come without a flow
window_left : is_window_left_behind (pair ++ (from 0 (ATransfer (with_more (first 0))) ∷ [])) 1023 ≡ true
unfolding is_window_left_behind
window_left = refl

not_renewed : is_window_left_behind (pair ++ (from 0 (ATransfer (with_more (first 0))) ∷ [])) 1024 ≡ false
unfolding is_window_left_behind
not_renewed = refl

-- the consumer asks for its credit back; also on a session without window
not_drained : neglected_of [] (pair ++ (from 1 (AFlow (draining (gives 0 0 5))) ∷ [])) ≡ Drain ∷ []
unfolding neglected_of
not_drained = refl

not_drained_without_window : neglected_of [] (pair ++ (from 1 (AFlow (draining (let flow = gives 0 0 5 in record flow { incoming_window = 0 }))) ∷ [])) ≡ Drain ∷ []
unfolding neglected_of
not_drained_without_window = refl

-- a flow with drain and echo is answered twice
drained_with_echo : neglected_of [] (pair ++ (from 1 (AFlow (echoing (draining (gives 0 0 5)))) ∷ to 1 (AFlow (draining (shows 0 0 0 5))) ∷ to 1 (AFlow (draining (shows 0 0 5 0))) ∷ [])) ≡ []
unfolding neglected_of
drained_with_echo = refl

-- a multicast delivery goes to no one; a session without window holds it back
abbrev all_q : ℕ → List Record
all_q window =
    producer 0 q ++ (to 0 (AFlow (shows 0 0 0 250)) ∷ []) ++ consumer 1 Settled q
    ++ (from 1 (AFlow (let flow = gives 0 0 2 in record flow { incoming_window = window })) ∷ from_with 0 (ATransfer (first 0)) hi ∷ [])

not_copied : neglected_of (rule Multicast q ∷ []) (all_q 1) ≡ Copies ∷ []
unfolding neglected_of
not_copied = refl

held_back : neglected_of (rule Multicast q ∷ []) (all_q 0) ≡ []
unfolding neglected_of
held_back = refl

-- no answer; an answer with another text; one that comes second
not_answered : neglected_of [] (connect 0 ++ (from 0 (begin_of None 100) ∷ [])) ≡ Answer ∷ []
unfolding neglected_of
not_answered = refl

answered_otherwise : neglected_of [] (connect 0 ++ (from 0 (begin_of None 100) ∷ to 0 (begin_of (Some 0) 2048) ∷ [])) ≡ Answer ∷ []
unfolding neglected_of
answered_otherwise = refl

-- the earlier attach gets the first delivery; the earlier delivery goes first
abbrev two_consumers : List Record
two_consumers =
    producer 0 q ++ consumer 1 Mixed q ++ (to 0 (AFlow (shows 0 0 0 250)) ∷ []) ++ consumer 2 Mixed q
    ++ (from 1 (AFlow (gives 0 0 1)) ∷ from 2 (AFlow (gives 0 0 1)) ∷ from_with 0 (ATransfer (first 0)) hi ∷ [])

picked : neglected_of [] (two_consumers ++ (carry 1 24 (first 0) hi ∷ [])) ≡ []
unfolding neglected_of
picked = refl

not_picked : neglected_of [] (two_consumers ++ (carry 2 24 (first 0) hi ∷ [])) ≡ Pick ∷ []
unfolding neglected_of
not_picked = refl

not_the_earliest : neglected_of [] (pair ++ (from_with 0 (ATransfer (first 0)) hi ∷ from_with 0 (ATransfer (first 1)) hi ∷ from 1 (AFlow (gives 0 0 1)) ∷ carry 1 16 (first 0) hi ∷ [])) ≡ Pick ∷ []
unfolding neglected_of
not_the_earliest = refl

-- a flow, an end or a close that nothing calls for; a delivery in more frames than it takes; fields that aren't written
flow_for_nothing : neglected_of [] (join 0 ++ (to 0 (AFlow (session_flow 0 2048 0 2147483647)) ∷ [])) ≡ NothingElse ∷ []
unfolding neglected_of
flow_for_nothing = refl

end_for_nothing : neglected_of [] (join 0 ++ (write 0 (written_end 0 None) ∷ [])) ≡ NothingElse ∷ []
unfolding neglected_of
end_for_nothing = refl

cut_for_nothing : neglected_of [] (sent ++ (carry 1 16 (with_more (first 0)) (104 ∷ []) ∷ carry 1 16 (next false) (105 ∷ []) ∷ [])) ≡ NothingElse ∷ []
unfolding neglected_of
cut_for_nothing = refl

transfer_without_format : neglected_of [] (sent ++ (carry 1 16 (let fields = first 0 in record fields { message_format = None }) hi ∷ [])) ≡ NothingElse ∷ []
unfolding neglected_of
transfer_without_format = refl

outcome_with_last : neglected_of [] (decided ++ (tell 0 C (let fields = disposes Receiver 0 true accepted in record fields { last = Some 0 }) ∷ write 1 (written_settling 0 0) ∷ [])) ≡ NothingElse ∷ []
unfolding neglected_of
outcome_with_last = refl

-- ---- what the answers are

-- a close before the client's open is answered by an open and a close; octets that are no frames by an error too
close_first : neglected_of [] (opened 0 ∷ from 0 (AClose None) ∷ write 0 written_open ∷ write 0 (written_close None) ∷ []) ≡ []
unfolding neglected_of
close_first = refl

broken_first : neglected_of [] (opened 0 ∷ broken 0 ∷ write 0 written_open ∷ write 0 (written_close (Some FramingError)) ∷ []) ≡ []
unfolding neglected_of
broken_first = refl

-- once a close is written, nothing answers broken octets, nor a lost device
broken_behind_close : neglected_of [] (connect 0 ++ (from 0 (AClose None) ∷ write 0 (written_close None) ∷ broken 0 ∷ lost 0 ∷ [])) ≡ []
unfolding neglected_of
broken_behind_close = refl

-- a close for a fault on a connection, an end for one on a session
closed_for_fault : neglected_of [] (join 0 ++ (from 0 (begin_of None 100) ∷ write 0 (written_close (Some NotAllowed)) ∷ [])) ≡ []
unfolding neglected_of
closed_for_fault = refl

-- on a channel that awaits the client's end nothing is answered but what comes behind it
ended_for_fault : neglected_of [] (join 0 ++ (from 0 (detach_of true) ∷ write 0 (written_end 0 (Some UnattachedHandle)) ∷ from 0 (begin_of None 100) ∷ from 0 (AnEnd None) ∷ from 0 (begin_of None 100) ∷ write 0 (written_begin 0) ∷ [])) ≡ []
unfolding neglected_of
ended_for_fault = refl

-- a refusal, and a detach for a fault on a link
refused : neglected_of [] (join 0 ++ (from 0 (AnAttach (bare Receiver None)) ∷ write 0 (written_refusal 0 (codes "l") 0 Sender) ∷ write 0 (written_detach 0 0 true (Some InvalidField)) ∷ [])) ≡ []
unfolding neglected_of
refused = refl

-- behind the detach a transfer of the handle counts in the session, and a flow with echo is answered without handle
detached_for_fault : neglected_of [] (producer 0 q ++ (from 0 (ATransfer (first 0)) ∷ write 0 (written_detach 0 0 true (Some TransferLimitExceeded)) ∷ from 0 (ATransfer (first 1)) ∷ from 0 (AFlow (echoing (gives 0 0 0))) ∷ to 0 (AFlow (session_flow 2 2048 0 2147483647)) ∷ [])) ≡ []
unfolding neglected_of
detached_for_fault = refl

-- a detach with the client's closed flag; an end
detached : neglected_of [] (producer 0 q ++ (from 0 (detach_of false) ∷ write 0 (written_detach 0 0 false None) ∷ from 0 (AnEnd None) ∷ write 0 (written_end 0 None) ∷ [])) ≡ []
unfolding neglected_of
detached = refl

-- echoes tell the link's numbers, or the session's alone
echoed : neglected_of [] (pair ++ (from 1 (AFlow (echoing (gives 0 0 7))) ∷ to 1 (AFlow (shows 0 0 0 7)) ∷ from 0 (AFlow (echoing (gives 0 0 3))) ∷ to 0 (AFlow (shows 0 0 0 250)) ∷ from 0 (AFlow (echoing (session_flow 0 100 0 100))) ∷ to 0 (AFlow (session_flow 0 2048 0 2147483647)) ∷ [])) ≡ []
unfolding neglected_of
echoed = refl

-- ---- picks

-- closest: the one that never got a delivery, then the one whose last began first
closest : neglected_of (rule Closest q ∷ []) (two_consumers ++ (carry 1 24 (first 0) hi ∷ from 1 (ADisposition (disposes Receiver 0 true accepted)) ∷ tell 0 C (disposes Receiver 0 true accepted) ∷ from 1 (AFlow (gives 1 1 1)) ∷ from_with 0 (ATransfer (first 1)) hi ∷ carry 2 29 (first 0) hi ∷ [])) ≡ []
unfolding neglected_of
closest = refl

-- balanced: none is undecided on either, so the earlier attach
balanced : neglected_of [] (two_consumers ++ (carry 1 24 (first 0) hi ∷ from 1 (ADisposition (disposes Receiver 0 true accepted)) ∷ tell 0 C (disposes Receiver 0 true accepted) ∷ from 1 (AFlow (gives 1 1 1)) ∷ from_with 0 (ATransfer (first 1)) hi ∷ carry 1 29 (first 1) hi ∷ [])) ≡ []
unfolding neglected_of
balanced = refl

-- and with one undecided on the first, the second
balanced_by_undecided : neglected_of [] (two_consumers ++ (carry 1 24 (first 0) hi ∷ from 1 (AFlow (gives 1 1 1)) ∷ from_with 0 (ATransfer (first 1)) hi ∷ carry 2 27 (first 0) hi ∷ [])) ≡ []
unfolding neglected_of
balanced_by_undecided = refl

-- a pre-settled link counts none: its consumer gets each
pre_settled : neglected_of [] (sent_by Settled ++ (carry 1 16 (as_settled (first 0)) hi ∷ tell 0 S (disposes Receiver 0 true accepted) ∷ []) ++ consumer 2 Mixed q ++ (from 2 (AFlow (gives 0 0 1)) ∷ from_with 0 (ATransfer (first 1)) hi ∷ carry 1 27 (as_settled (first 1)) hi ∷ tell 0 S (disposes Receiver 1 true accepted) ∷ [])) ≡ []
unfolding neglected_of
pre_settled = refl

-- ---- which is not diligent

not_sent-is_not_diligent : diligence_of [] sent ≡ false
unfolding diligence_of
not_sent-is_not_diligent = refl

not_gone_on-is_not_diligent : diligence_of [] small_frames ≡ false
unfolding diligence_of
not_gone_on-is_not_diligent = refl

not_told-is_not_diligent : diligence_of [] decided ≡ false
unfolding diligence_of
not_told-is_not_diligent = refl

not_settled-is_not_diligent : diligence_of [] (decided ++ (tell 0 C (disposes Receiver 0 true accepted) ∷ [])) ≡ false
unfolding diligence_of
not_settled-is_not_diligent = refl

not_topped_up-is_not_diligent : diligence_of [] (producer 0 q ++ consumer 1 Mixed q) ≡ false
unfolding diligence_of
not_topped_up-is_not_diligent = refl

not_drained-is_not_diligent : diligence_of [] (pair ++ (from 1 (AFlow (draining (gives 0 0 5))) ∷ [])) ≡ false
unfolding diligence_of
not_drained-is_not_diligent = refl

not_copied-is_not_diligent : diligence_of (rule Multicast q ∷ []) (all_q 1) ≡ false
unfolding diligence_of
not_copied-is_not_diligent = refl

not_answered-is_not_diligent : diligence_of [] (connect 0 ++ (from 0 (begin_of None 100) ∷ [])) ≡ false
unfolding diligence_of
not_answered-is_not_diligent = refl

not_picked-is_not_diligent : diligence_of [] (two_consumers ++ (carry 2 24 (first 0) hi ∷ [])) ≡ false
unfolding diligence_of
not_picked-is_not_diligent = refl

flow_for_nothing-is_not_diligent : diligence_of [] (join 0 ++ (to 0 (AFlow (session_flow 0 2048 0 2147483647)) ∷ [])) ≡ false
unfolding diligence_of
flow_for_nothing-is_not_diligent = refl

-- ---- readings of the rules

-- a delivery that waits goes on to wait when its id is settled by its producer
settled_waits : neglected_of [] (pair ++ (from_with 0 (ATransfer (as_settled (first 0))) hi ∷ from 1 (AFlow (gives 0 0 1)) ∷ [])) ≡ Waiting ∷ []
unfolding neglected_of
settled_waits = refl

-- another consumer may attach to a made-up address by its name, and a producer too
abbrev made_up : List Record
made_up =
    join 0 ++ (from 0 (AnAttach (let fields = bare Receiver None in record fields { source = Some (terminus (Some q) (Some true)) })) ∷ [])

made_up_shared : neglected_of [] (made_up ++ (write 0 (written_to_consumer 0 (codes "l") 0 Mixed First (codes "dyn/5") true) ∷ []) ++ consumer 1 Mixed (codes "dyn/5") ++ producer 2 (codes "dyn/5") ++ (to 2 (AFlow (shows 0 0 0 250)) ∷ [])) ≡ []
unfolding neglected_of
made_up_shared = refl
