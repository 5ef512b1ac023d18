-- What captures say of the queue of an address, and of what one more record pairs, keeps, decides and begins.
use Rattle.std.specs.Prelude.{◌≡◌, List, true, false, [], ◌∷◌, ◌++◌, codes, Some, refl}
use Rattle.amqp_perf.specs.declared.attach.Role.TheVariants.{Receiver}
use Rattle.amqp_perf.specs.Meaning.{AFlow, ATransfer, ADisposition}
use Rattle.pairing_cert.specs.declared.note.Why.TheVariants.{C}
use Rattle.capture_form.specs.declared.records.Record.{Record}
use Rattle.capture_form.specs.declared.rules.Distribution.TheVariants.{Multicast}
use Rattle.trace_events.proofs.Captures.{rule, queue_in, completed_in, is_paired_by, stays_behind, is_decided_by, decided_by, begins_by}
use Rattle.trace_events.proofs.Made.{from, from_with, carry, tell, gives, first, next, with_more, as_settled, disposes, accepted, detach_of, q, hi, sent}

-- delivery 16 waits at q, and delivery 17 behind it; the producer's link is that of record 6, and the consumer's of record 13
abbrev two : List Record
two = sent ++ (from_with 0 (ATransfer (first 1)) hi ∷ [])

-- the consumer is sent delivery 16, and accepts it
abbrev answered : List Record
answered = sent ++ (carry 1 16 (first 0) hi ∷ from 1 (ADisposition (disposes Receiver 0 true accepted)) ∷ [])

-- ---- the queue

-- the last completed first
all_completed : completed_in [] two ≡ 17 ∷ 16 ∷ []
unfolding completed_in
all_completed = refl

-- one of which more is to come is not complete
not_completed : completed_in [] (sent ++ (from_with 0 (ATransfer (with_more (first 1))) hi ∷ [])) ≡ 16 ∷ []
unfolding completed_in
not_completed = refl

-- they wait in the order of completion
in_order : queue_in [] two q ≡ 16 ∷ 17 ∷ []
unfolding queue_in
in_order = refl

-- at another address none waits
other_address : queue_in [] two (codes "p") ≡ []
unfolding queue_in
other_address = refl

-- of multicast none waits
never_waits : queue_in (rule Multicast q ∷ []) two q ≡ []
unfolding queue_in
never_waits = refl

-- what is paired leaves it
first_paired : queue_in [] (two ++ (carry 1 16 (first 0) hi ∷ [])) q ≡ 17 ∷ []
unfolding queue_in
first_paired = refl

-- and all leave it when the last consumer does
consumer_left : queue_in [] (two ++ (from 1 (detach_of true) ∷ [])) q ≡ []
unfolding queue_in
consumer_left = refl

-- ---- what stays

stays_on : stays_behind [] two (carry 1 16 (first 0) hi) 17 ≡ true
unfolding stays_behind
stays_on = refl

without_consumer : stays_behind [] two (from 1 (detach_of true)) 17 ≡ false
unfolding stays_behind
without_consumer = refl

though_not_paired : is_paired_by [] two (from 1 (detach_of true)) 17 ≡ false
unfolding is_paired_by
though_not_paired = refl

paired_now : stays_behind [] two (carry 1 16 (first 0) hi) 16 ≡ false
unfolding stays_behind
paired_now = refl

is_paired_now : is_paired_by [] two (carry 1 16 (first 0) hi) 16 ≡ true
unfolding is_paired_by
is_paired_now = refl

-- another delivery is paired
paired_another : is_paired_by [] two (carry 1 16 (first 0) hi) 17 ≡ false
unfolding is_paired_by
paired_another = refl

-- a later part pairs nothing
later_part : is_paired_by [] (two ++ (carry 1 16 (with_more (first 0)) hi ∷ [])) (carry 1 16 (next false) hi) 16 ≡ false
unfolding is_paired_by
later_part = refl

-- ---- what is decided, and what begins

decides_one : is_decided_by [] answered (tell 0 C (disposes Receiver 0 true accepted)) 16 ≡ true
unfolding is_decided_by
decides_one = refl

-- it is undecided still
still_undecided : is_decided_by [] answered (from 1 (AFlow (gives 1 1 10))) 16 ≡ false
unfolding is_decided_by
still_undecided = refl

-- it was decided before
decided_before : is_decided_by [] (answered ++ (tell 0 C (disposes Receiver 0 true accepted) ∷ [])) (from 0 (detach_of true)) 16 ≡ false
unfolding is_decided_by
decided_before = refl

counts_one : decided_by [] answered (tell 0 C (disposes Receiver 0 true accepted)) 6 ≡ Some 1
unfolding decided_by
counts_one = refl

-- the end of their link decides all of its deliveries
counts_all : decided_by [] two (from 0 (detach_of true)) 6 ≡ Some 2
unfolding decided_by
counts_all = refl

-- and none of another link
counts_none : decided_by [] two (from 0 (detach_of true)) 13 ≡ Some 0
unfolding decided_by
counts_none = refl

begins_one : begins_by [] sent (from_with 0 (ATransfer (first 1)) hi) 6 ≡ true
unfolding begins_by
begins_one = refl

of_another_link : begins_by [] sent (from_with 0 (ATransfer (first 1)) hi) 13 ≡ false
unfolding begins_by
of_another_link = refl

-- a later part begins nothing
goes_on : begins_by [] (sent ++ (from_with 0 (ATransfer (with_more (first 1))) hi ∷ [])) (from_with 0 (ATransfer (next false)) hi) 6 ≡ false
unfolding begins_by
goes_on = refl

-- of multicast and settled, it is decided at once
decided_at_once : begins_by (rule Multicast q ∷ []) sent (from_with 0 (ATransfer (as_settled (first 1))) hi) 6 ≡ false
unfolding begins_by
decided_at_once = refl
