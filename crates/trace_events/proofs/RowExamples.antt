-- What captures say of the row of a multicast delivery: when it tells something, and what.
use Rattle.std.specs.Prelude.{◌≡◌, ℕ, List, [], ◌∷◌, ◌++◌, Option, Some, None, refl}
use Rattle.amqp_perf.specs.declared.attach.SenderSettleMode.TheVariants.{Settled, Mixed}
use Rattle.amqp_perf.specs.Meaning.{AFlow, ATransfer}
use Rattle.capture_form.specs.declared.records.Record.{Record}
use Rattle.trace_events.proofs.Made.{from, from_with, carry, gives, first, as_settled, accepted, released, hi, multicast}
use Rattle.trace_events.proofs.Copies.{attached, completed, copy_to, says_of, leaves, rejected, modified, row_in}

abbrev failed : Option (List ℕ)
failed = Some (0x00 ∷ 0x53 ∷ 0x27 ∷ 0xC0 ∷ 0x02 ∷ 0x01 ∷ 0x41 ∷ [])

-- delivery 24 went to both consumers
abbrev sent : List Record
sent = completed Mixed Mixed ++ (copy_to 1 ∷ copy_to 2 ∷ [])

-- both say of it
abbrev both_say : Option (List ℕ) → Option (List ℕ) → List Record
both_say one other = sent ++ (says_of 1 one ∷ says_of 2 other ∷ [])

-- ---- when

no_verdict : row_in multicast sent 24 ≡ None
unfolding row_in
no_verdict = refl

one_of_two : row_in multicast (sent ++ (says_of 1 accepted ∷ [])) 24 ≡ None
unfolding row_in
one_of_two = refl

each_of_two : row_in multicast (both_say accepted accepted) 24 ≡ Some accepted
unfolding row_in
each_of_two = refl

-- the consumer of record 20 gave no credit, and is not waited for
due_to_one : row_in multicast (attached Mixed Mixed ++ (from 1 (AFlow (gives 0 0 10)) ∷ from_with 0 (ATransfer (first 0)) hi ∷ carry 1 23 (first 0) hi ∷ says_of 1 released ∷ [])) 23 ≡ Some released
unfolding row_in
due_to_one = refl

-- nor one that gives credit behind the completion
due_too_late : row_in multicast (attached Mixed Mixed ++ (from 1 (AFlow (gives 0 0 10)) ∷ from_with 0 (ATransfer (first 0)) hi ∷ from 2 (AFlow (gives 0 0 10)) ∷ carry 1 23 (first 0) hi ∷ says_of 1 released ∷ [])) 23 ≡ Some released
unfolding row_in
due_too_late = refl

-- one whose credit was taken back is
due_for_good : row_in multicast (completed Mixed Mixed ++ (copy_to 1 ∷ from 2 (AFlow (gives 0 0 0)) ∷ says_of 1 released ∷ [])) 24 ≡ None
unfolding row_in
due_for_good = refl

due_to_none : row_in multicast (attached Mixed Mixed ++ (from_with 0 (ATransfer (first 0)) hi ∷ [])) 22 ≡ Some accepted
unfolding row_in
due_to_none = refl

-- one of anycast has no such row
of_anycast : row_in [] (sent ++ (says_of 1 accepted ∷ says_of 2 accepted ∷ [])) 24 ≡ None
unfolding row_in
of_anycast = refl

-- ---- what

accepted_before_modified : row_in multicast (both_say modified accepted) 24 ≡ Some accepted
unfolding row_in
accepted_before_modified = refl

accepted_before_rejected : row_in multicast (both_say accepted rejected) 24 ≡ Some accepted
unfolding row_in
accepted_before_rejected = refl

accepted_before_released : row_in multicast (both_say accepted released) 24 ≡ Some accepted
unfolding row_in
accepted_before_released = refl

modified_before_rejected : row_in multicast (both_say rejected modified) 24 ≡ Some failed
unfolding row_in
modified_before_rejected = refl

modified_before_released : row_in multicast (both_say modified released) 24 ≡ Some failed
unfolding row_in
modified_before_released = refl

rejected_before_released : row_in multicast (both_say released rejected) 24 ≡ Some rejected
unfolding row_in
rejected_before_released = refl

released_by_both : row_in multicast (both_say released released) 24 ≡ Some released
unfolding row_in
released_by_both = refl

-- a link that is over counts as modified, one that is settled beforehand as accepted
over_before_released : row_in multicast (sent ++ (says_of 1 released ∷ leaves 2 ∷ [])) 24 ≡ Some failed
unfolding row_in
over_before_released = refl

settled_before_over : row_in multicast (completed Settled Mixed ++ (carry 1 24 (as_settled (first 0)) hi ∷ leaves 2 ∷ [])) 24 ≡ Some accepted
unfolding row_in
settled_before_over = refl
