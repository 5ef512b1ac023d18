-- Records in the order of a step, and out of it: for each place what is due in front of it, alone.
use Rattle.std.specs.Prelude.{◌≡◌, ℕ, List, true, false, [], ◌∷◌, ◌++◌, replicate, codes, Some, None, refl}
use Rattle.amqp_perf.specs.declared.attach.Role.TheVariants.{Receiver}
use Rattle.amqp_perf.specs.declared.attach.SenderSettleMode.TheVariants.{Settled, Mixed}
use Rattle.amqp_perf.specs.declared.attach.ReceiverSettleMode.TheVariants.{First}
use Rattle.amqp_perf.specs.Meaning.{AnAttach, AFlow, ATransfer, ADisposition}
use Rattle.pairing_cert.specs.declared.note.Why.TheVariants.{C, S}
use Rattle.capture_form.specs.declared.records.Record.{Record}
use Rattle.trace_events.specs.Written.{written_open, written_begin, written_settling}
use Rattle.trace_events.proofs.Captures.{opened}
use Rattle.trace_events.proofs.Made.{from, from_with, write, to, carry, tell, open_of, begin_of, receives_from, session_flow, gives, shows, draining, first, next, with_more, as_settled, disposes, accepted, q, hi, producer, consumer, pair, pair_by, sent, written_to_consumer, multicast}
use Rattle.trace_events.proofs.Copies.{completed}
use Rattle.trace_duties.proofs.Captures.{diligence_of, in_turn_by, left_of, order_of}
use Rattle.trace_duties.proofs.Duties.{Waiting, Progress, Outcome, Credit, Drain, Copies, Settling}

-- ---- whole captures that keep all duties, in order and out of it

-- the consumer decides two deliveries at once: both are told, and then both are settled
abbrev two_decided : List Record
two_decided =
    sent ++ (carry 1 16 (first 0) hi ∷ from_with 0 (ATransfer (first 1)) hi ∷ carry 1 18 (first 1) hi
    ∷ from 1 (ADisposition (let fields = disposes Receiver 0 false accepted in record fields { last = Some 1 })) ∷ [])

abbrev tells : ℕ → Record
tells id = tell 0 C (disposes Receiver id true accepted)

abbrev settles : ℕ → Record
settles id = write 1 (written_settling 0 id)

told_then_settled : order_of [] (two_decided ++ (tells 0 ∷ tells 1 ∷ settles 0 ∷ settles 1 ∷ [])) ≡ true
unfolding order_of
told_then_settled = refl

abbrev one_by_one : List Record
one_by_one = two_decided ++ (tells 0 ∷ settles 0 ∷ tells 1 ∷ settles 1 ∷ [])

settled_too_early : order_of [] one_by_one ≡ false
unfolding order_of
settled_too_early = refl

settled_too_early_kept : diligence_of [] one_by_one ≡ true
unfolding diligence_of
settled_too_early_kept = refl

-- two deliveries go settled by one credit: each is told behind its transfer
abbrev two_wait : List Record
two_wait = pair_by Settled ++ (from_with 0 (ATransfer (first 0)) hi ∷ from_with 0 (ATransfer (first 1)) hi ∷ from 1 (AFlow (gives 0 0 2)) ∷ [])

abbrev goes : ℕ → ℕ → Record
goes id number = carry 1 number (as_settled (first id)) hi

abbrev is_told : ℕ → Record
is_told id = tell 0 S (disposes Receiver id true accepted)

told_behind_each : order_of [] (two_wait ++ (goes 0 15 ∷ is_told 0 ∷ goes 1 16 ∷ is_told 1 ∷ [])) ≡ true
unfolding order_of
told_behind_each = refl

abbrev told_at_the_end : List Record
told_at_the_end = two_wait ++ (goes 0 15 ∷ goes 1 16 ∷ is_told 0 ∷ is_told 1 ∷ [])

told_too_late : order_of [] told_at_the_end ≡ false
unfolding order_of
told_too_late = refl

told_too_late_kept : diligence_of [] told_at_the_end ≡ true
unfolding diligence_of
told_too_late_kept = refl

-- ---- each place, and what goes in front of it

-- an outcome, before the settling that it frees
abbrev decided : List Record
decided = sent ++ (carry 1 16 (first 0) hi ∷ from 1 (ADisposition (disposes Receiver 0 false accepted)) ∷ [])

untold : left_of [] decided ≡ Outcome ∷ []
unfolding left_of
untold = refl

outcome_first : in_turn_by [] decided (tells 0) ≡ true
unfolding in_turn_by
outcome_first = refl

settling_behind_outcomes : in_turn_by [] decided (settles 0) ≡ false
unfolding in_turn_by
settling_behind_outcomes = refl

-- it is told and not settled
abbrev unsettled : List Record
unsettled = decided ++ (tells 0 ∷ [])

is_unsettled : left_of [] unsettled ≡ Settling ∷ []
unfolding left_of
is_unsettled = refl

settling_next : in_turn_by [] unsettled (settles 0) ≡ true
unfolding in_turn_by
settling_next = refl

-- a delivery waits, beside an outcome, beside a settling, and alone
abbrev more : List Record
more = from_with 0 (ATransfer (first 1)) hi ∷ []

beside_outcome : left_of [] (decided ++ more) ≡ Outcome ∷ Waiting ∷ []
unfolding left_of
beside_outcome = refl

transfer_behind_outcomes : in_turn_by [] (decided ++ more) (carry 1 19 (first 1) hi) ≡ false
unfolding in_turn_by
transfer_behind_outcomes = refl

beside_settling : left_of [] (unsettled ++ more) ≡ Settling ∷ Waiting ∷ []
unfolding left_of
beside_settling = refl

transfer_behind_settlings : in_turn_by [] (unsettled ++ more) (carry 1 20 (first 1) hi) ≡ false
unfolding in_turn_by
transfer_behind_settlings = refl

alone : left_of [] sent ≡ Waiting ∷ []
unfolding left_of
alone = refl

transfer_next : in_turn_by [] sent (carry 1 16 (first 0) hi) ≡ true
unfolding in_turn_by
transfer_next = refl

-- of 600 octets the first 487 went; another delivery waits, for another consumer
abbrev in_progress : List Record
in_progress =
    producer 0 q ++ (opened 1 ∷ from 1 (open_of 512) ∷ write 1 written_open ∷ from 1 (begin_of None 1) ∷ write 1 (written_begin 0)
    ∷ from 1 (AnAttach (receives_from q)) ∷ write 1 (written_to_consumer 0 (codes "l") 0 Mixed First q false)
    ∷ to 0 (AFlow (shows 0 0 0 250)) ∷ from 1 (AFlow (gives 0 0 10)) ∷ from_with 0 (ATransfer (first 0)) (replicate 600 7)
    ∷ carry 1 16 (with_more (first 0)) (replicate 487 7) ∷ [])

abbrev other_waits : List Record
other_waits = in_progress ++ consumer 2 Mixed q ++ (from 2 (AFlow (gives 0 0 10)) ∷ from_with 0 (ATransfer (first 1)) hi ∷ [])

in_progress_waits : left_of [] other_waits ≡ Progress ∷ Waiting ∷ []
unfolding left_of
in_progress_waits = refl

goes_on_first : in_turn_by [] other_waits (carry 1 16 (next false) (replicate 113 7)) ≡ true
unfolding in_turn_by
goes_on_first = refl

begins_behind : in_turn_by [] other_waits (carry 2 26 (first 0) hi) ≡ false
unfolding in_turn_by
begins_behind = refl

-- of two deliveries at two addresses the first completed goes first
abbrev r : List ℕ
r = codes "r"

abbrev two_addresses : List Record
two_addresses =
    producer 0 q ++ consumer 1 Mixed q ++ producer 2 r ++ consumer 3 Mixed r ++ (to 0 (AFlow (shows 0 0 0 250)) ∷ to 2 (AFlow (shows 0 0 0 250))
    ∷ from_with 0 (ATransfer (first 0)) hi ∷ from_with 2 (ATransfer (first 0)) hi ∷ from 1 (AFlow (gives 0 0 1)) ∷ from 3 (AFlow (gives 0 0 1)) ∷ [])

both_wait : left_of [] two_addresses ≡ Waiting ∷ []
unfolding left_of
both_wait = refl

earlier_first : in_turn_by [] two_addresses (carry 1 30 (first 0) hi) ≡ true
unfolding in_turn_by
earlier_first = refl

later_first : in_turn_by [] two_addresses (carry 3 31 (first 0) hi) ≡ false
unfolding in_turn_by
later_first = refl

-- a copy
uncopied : left_of multicast (completed Mixed Mixed) ≡ Copies ∷ []
unfolding left_of
uncopied = refl

copy_next : in_turn_by multicast (completed Mixed Mixed) (carry 2 24 (first 0) hi) ≡ true
unfolding in_turn_by
copy_next = refl

-- ---- flows

-- a consumer of another address drains
abbrev drains : List Record
drains = consumer 3 Mixed r ++ (from 3 (AFlow (draining (gives 0 0 5))) ∷ [])

abbrev drained : Record
drained = to 3 (AFlow (draining (shows 0 0 5 0)))

undrained : left_of [] (pair ++ drains) ≡ Drain ∷ []
unfolding left_of
undrained = refl

drain_next : in_turn_by [] (pair ++ drains) drained ≡ true
unfolding in_turn_by
drain_next = refl

drain_behind_outcomes : in_turn_by [] (decided ++ drains) drained ≡ false
unfolding in_turn_by
drain_behind_outcomes = refl

outcome_and_drain : left_of [] (decided ++ drains) ≡ Outcome ∷ Drain ∷ []
unfolding left_of
outcome_and_drain = refl

drain_behind_settlings : in_turn_by [] (unsettled ++ drains) drained ≡ false
unfolding in_turn_by
drain_behind_settlings = refl

settling_and_drain : left_of [] (unsettled ++ drains) ≡ Settling ∷ Drain ∷ []
unfolding left_of
settling_and_drain = refl

drain_behind_parts : in_turn_by [] (in_progress ++ drains) drained ≡ false
unfolding in_turn_by
drain_behind_parts = refl

part_and_drain : left_of [] (in_progress ++ drains) ≡ Progress ∷ Drain ∷ []
unfolding left_of
part_and_drain = refl

drain_behind_those_that_wait : in_turn_by [] (sent ++ drains) drained ≡ false
unfolding in_turn_by
drain_behind_those_that_wait = refl

waiting_and_drain : left_of [] (sent ++ drains) ≡ Waiting ∷ Drain ∷ []
unfolding left_of
waiting_and_drain = refl

drain_behind_copies : in_turn_by multicast (completed Mixed Mixed ++ drains) drained ≡ false
unfolding in_turn_by
drain_behind_copies = refl

copy_and_drain : left_of multicast (completed Mixed Mixed ++ drains) ≡ Copies ∷ Drain ∷ []
unfolding left_of
copy_and_drain = refl

-- a producer's link has no credit
abbrev lacking : List Record
lacking = producer 0 q ++ consumer 1 Mixed q

abbrev credited : Record
credited = to 0 (AFlow (shows 0 0 0 250))

lacks_credit : left_of [] lacking ≡ Credit ∷ []
unfolding left_of
lacks_credit = refl

credit_next : in_turn_by [] lacking credited ≡ true
unfolding in_turn_by
credit_next = refl

credit_and_drain : left_of [] (lacking ++ drains) ≡ Drain ∷ Credit ∷ []
unfolding left_of
credit_and_drain = refl

drain_before_credit : in_turn_by [] (lacking ++ drains) drained ≡ true
unfolding in_turn_by
drain_before_credit = refl

credit_behind_drains : in_turn_by [] (lacking ++ drains) credited ≡ false
unfolding in_turn_by
credit_behind_drains = refl

-- a session's window comes last
abbrev renewed : Record
renewed = to 0 (AFlow (session_flow 0 2048 0 2147483647))

window_last : in_turn_by [] pair renewed ≡ true
unfolding in_turn_by
window_last = refl

window_behind_credit : in_turn_by [] lacking renewed ≡ false
unfolding in_turn_by
window_behind_credit = refl

-- what is no answer, and no frame of these kinds, has no place
no_place : in_turn_by [] pair (write 0 written_open) ≡ false
unfolding in_turn_by
no_place = refl

-- an answer is in front of all that is due
answer_first : in_turn_by [] (decided ++ (from 0 (begin_of None 100) ∷ [])) (to 0 (begin_of (Some 0) 2048)) ≡ true
unfolding in_turn_by
answer_first = refl
