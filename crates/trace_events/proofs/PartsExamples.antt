-- What captures do to the deliveries of their producer's session, as counted events, the newest first.
use Rattle.std.specs.Prelude.{◌≡◌, List, true, false, [], ◌∷◌, ◌++◌, codes, Some, None, refl}
use Rattle.amqp_perf.specs.declared.attach.Role.TheVariants.{Receiver}
use Rattle.amqp_perf.specs.Meaning.{AFlow, ATransfer, ADisposition, TransferFields}
use Rattle.pairing_cert.specs.declared.note.Why.TheVariants.{C}
use Rattle.capture_form.specs.declared.records.Record.{Record}
use Rattle.capture_form.specs.declared.rules.Distribution.TheVariants.{Multicast}
use Rattle.flow_counts.specs.Parts.{Part, Aborted, Completed, Freed, in_progress, is_in_use}
use Rattle.trace_events.proofs.Captures.{rule, parts_in}
use Rattle.trace_events.proofs.Made.{from, from_with, carry, tell, gives, first, next, with_more, as_settled, disposes, accepted, detach_of, q, hi, pair, sent}

abbrev aborting : TransferFields → TransferFields
aborting fields = record fields { aborted = Some true }

-- the first part of a delivery in record 15; the producer's session is that of record 4, and its link that of record 6
abbrev begun : List Record
begun = pair ++ (from_with 0 (ATransfer (with_more (first 7))) hi ∷ [])

-- nothing but transfers is a part
no_transfer : parts_in [] pair 4 ≡ []
unfolding parts_in
no_transfer = refl

-- nor are those of another session
other_session : parts_in [] sent 11 ≡ []
unfolding parts_in
other_session = refl

-- ---- parts

one_part : parts_in [] sent 4 ≡ Completed 6 ∷ Part 6 16 (Some 0) hi ∷ []
unfolding parts_in
one_part = refl

first_part : parts_in [] begun 4 ≡ Part 6 15 (Some 7) hi ∷ []
unfolding parts_in
first_part = refl

-- a part has the id that its own transfer says
last_part : parts_in [] (begun ++ (from_with 0 (ATransfer (next false)) hi ∷ [])) 4 ≡ Completed 6 ∷ Part 6 16 None hi ∷ Part 6 15 (Some 7) hi ∷ []
unfolding parts_in
last_part = refl

-- ---- aborts, which free no id beside

given_up : parts_in [] (begun ++ (from_with 0 (ATransfer (aborting (next false))) hi ∷ [])) 4 ≡ Aborted 6 ∷ Part 6 15 (Some 7) hi ∷ []
unfolding parts_in
given_up = refl

given_up_at_once : parts_in [] (pair ++ (from_with 0 (ATransfer (aborting (first 7))) hi ∷ [])) 4 ≡ Aborted 6 ∷ []
unfolding parts_in
given_up_at_once = refl

-- a part with a fault moves nothing: it says another id
faulty_part : parts_in [] (begun ++ (from_with 0 (ATransfer (with_more (first 8))) hi ∷ [])) 4 ≡ Part 6 15 (Some 7) hi ∷ []
unfolding parts_in
faulty_part = refl

-- ---- ids that are freed

-- a settled delivery is decided once a consumer is sent it
settled_delivery : parts_in [] (pair ++ (from 1 (AFlow (gives 0 0 10)) ∷ from_with 0 (ATransfer (as_settled (first 0))) hi ∷ carry 1 16 (first 0) hi ∷ [])) 4
    ≡ Freed 0 ∷ Completed 6 ∷ Part 6 16 (Some 0) hi ∷ []
unfolding parts_in
settled_delivery = refl

-- of multicast it waits for nobody: its last part decides it
settled_at_once : parts_in (rule Multicast q ∷ []) (pair ++ (from_with 0 (ATransfer (as_settled (first 7))) hi ∷ [])) 4 ≡ Freed 7 ∷ Completed 6 ∷ Part 6 15 (Some 7) hi ∷ []
unfolding parts_in
settled_at_once = refl

-- one that isn't settled is decided by the outcome that its producer is told
told_delivery : parts_in [] (sent ++ (carry 1 16 (first 0) hi ∷ from 1 (ADisposition (disposes Receiver 0 true accepted)) ∷ tell 0 C (disposes Receiver 0 true accepted) ∷ [])) 4
    ≡ Freed 0 ∷ Completed 6 ∷ Part 6 16 (Some 0) hi ∷ []
unfolding parts_in
told_delivery = refl

-- the end of their link decides all of its deliveries
detached_link : parts_in [] (sent ++ (from_with 0 (ATransfer (with_more (first 7))) hi ∷ from 0 (detach_of true) ∷ [])) 4
    ≡ Freed 7 ∷ Freed 0 ∷ Part 6 17 (Some 7) hi ∷ Completed 6 ∷ Part 6 16 (Some 0) hi ∷ []
unfolding parts_in
detached_link = refl

-- ---- what is counted over them

counted_part : in_progress 6 (parts_in [] (begun ++ (from_with 0 (ATransfer (next true)) hi ∷ [])) 4) ≡ Some (record { number = 15; id = Some 7; payload = codes "hihi" })
unfolding parts_in
counted_part = refl

id_in_use : is_in_use 7 (parts_in [] begun 4) ≡ true
unfolding parts_in
id_in_use = refl

id_given_up : is_in_use 7 (parts_in [] (begun ++ (from_with 0 (ATransfer (aborting (next false))) hi ∷ [])) 4) ≡ false
unfolding parts_in
id_given_up = refl
