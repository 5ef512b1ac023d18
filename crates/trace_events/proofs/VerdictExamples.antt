-- What captures say of the verdict of one copy: what gives one, and what gives none.
use Rattle.std.specs.Prelude.{◌≡◌, true, false, List, [], ◌∷◌, ◌++◌, Some, None, refl}
use Rattle.amqp_perf.specs.declared.attach.SenderSettleMode.TheVariants.{Settled, Mixed}
use Rattle.amqp_perf.specs.declared.descriptor.Outcome.TheVariants.{Accepted, Rejected, Released, Modified}
use Rattle.amqp_perf.specs.Meaning.{AFlow, ATransfer}
use Rattle.capture_form.specs.declared.records.Record.{Record}
use Rattle.trace_events.proofs.Made.{from, from_with, gives, carry, first, with_more, as_settled, accepted, released, hi, multicast}
use Rattle.trace_events.proofs.Copies.{completed, copy_to, says_of, settles_with, leaves, rejected, modified, received, attached, verdict_in, awaits_in, awaits_by, given_by}

-- delivery 24 is complete; its copy goes to the consumer of the link of record 13, which wants it unsettled
abbrev sent : List Record
sent = completed Mixed Mixed ++ (copy_to 1 ∷ [])

-- ---- no verdict yet

while_it_is_unsent : verdict_in multicast (completed Mixed Mixed) 24 13 ≡ None
unfolding verdict_in
while_it_is_unsent = refl

sent_and_undecided : verdict_in multicast sent 24 13 ≡ None
unfolding verdict_in
sent_and_undecided = refl

received_decides_nothing : verdict_in multicast (sent ++ (says_of 1 received ∷ [])) 24 13 ≡ None
unfolding verdict_in
received_decides_nothing = refl

-- ---- by what the consumer decides

by_its_state : verdict_in multicast (sent ++ (says_of 1 accepted ∷ [])) 24 13 ≡ Some Accepted
unfolding verdict_in
by_its_state = refl

as_rejected : verdict_in multicast (sent ++ (says_of 1 rejected ∷ [])) 24 13 ≡ Some Rejected
unfolding verdict_in
as_rejected = refl

as_released : verdict_in multicast (sent ++ (settles_with 1 released ∷ [])) 24 13 ≡ Some Released
unfolding verdict_in
as_released = refl

as_modified : verdict_in multicast (sent ++ (settles_with 1 modified ∷ [])) 24 13 ≡ Some Modified
unfolding verdict_in
as_modified = refl

settled_without_state : verdict_in multicast (sent ++ (settles_with 1 None ∷ [])) 24 13 ≡ Some Accepted
unfolding verdict_in
settled_without_state = refl

settled_as_received : verdict_in multicast (sent ++ (settles_with 1 received ∷ [])) 24 13 ≡ Some Accepted
unfolding verdict_in
settled_as_received = refl

first_decision_counts : verdict_in multicast (sent ++ (says_of 1 released ∷ settles_with 1 accepted ∷ [])) 24 13 ≡ Some Released
unfolding verdict_in
first_decision_counts = refl

-- before its last part, too
decided_in_part : verdict_in multicast (completed Mixed Mixed ++ (carry 1 24 (with_more (first 0)) (0x68 ∷ []) ∷ says_of 1 rejected ∷ [])) 24 13 ≡ Some Rejected
unfolding verdict_in
decided_in_part = refl

-- ---- by what is written on a link that is settled beforehand

wholly_sent : verdict_in multicast (completed Settled Mixed ++ (carry 1 24 (as_settled (first 0)) hi ∷ [])) 24 13 ≡ Some Accepted
unfolding verdict_in
wholly_sent = refl

sent_in_part : verdict_in multicast (completed Settled Mixed ++ (carry 1 24 (with_more (as_settled (first 0))) (0x68 ∷ []) ∷ [])) 24 13 ≡ None
unfolding verdict_in
sent_in_part = refl

-- a disposition decides nothing there
said_in_vain : verdict_in multicast (completed Settled Mixed ++ (carry 1 24 (with_more (as_settled (first 0))) (0x68 ∷ []) ∷ says_of 1 rejected ∷ [])) 24 13 ≡ None
unfolding verdict_in
said_in_vain = refl

rejected_in_vain : verdict_in multicast (completed Settled Mixed ++ (carry 1 24 (as_settled (first 0)) hi ∷ says_of 1 rejected ∷ [])) 24 13 ≡ Some Accepted
unfolding verdict_in
rejected_in_vain = refl

-- ---- by the end of the link

over_and_unsent : verdict_in multicast (completed Mixed Mixed ++ (leaves 1 ∷ [])) 24 13 ≡ Some Modified
unfolding verdict_in
over_and_unsent = refl

over_and_undecided : verdict_in multicast (sent ++ (leaves 1 ∷ [])) 24 13 ≡ Some Modified
unfolding verdict_in
over_and_undecided = refl

over_in_part : verdict_in multicast (completed Settled Mixed ++ (carry 1 24 (with_more (as_settled (first 0))) (0x68 ∷ []) ∷ leaves 1 ∷ [])) 24 13 ≡ Some Modified
unfolding verdict_in
over_in_part = refl

-- what is said behind the end decides nothing, and what was decided before stays
said_behind_the_end : verdict_in multicast (sent ++ (leaves 1 ∷ says_of 1 released ∷ [])) 24 13 ≡ Some Modified
unfolding verdict_in
said_behind_the_end = refl

decided_before_the_end : verdict_in multicast (sent ++ (says_of 1 released ∷ leaves 1 ∷ [])) 24 13 ≡ Some Released
unfolding verdict_in
decided_before_the_end = refl

sent_before_the_end : verdict_in multicast (completed Settled Mixed ++ (carry 1 24 (as_settled (first 0)) hi ∷ leaves 1 ∷ [])) 24 13 ≡ Some Accepted
unfolding verdict_in
sent_before_the_end = refl

-- ---- of this link, and of this delivery

another_link : verdict_in multicast (sent ++ (copy_to 2 ∷ says_of 1 accepted ∷ [])) 24 20 ≡ None
unfolding verdict_in
another_link = refl

another_end : verdict_in multicast (sent ++ (leaves 2 ∷ [])) 24 13 ≡ None
unfolding verdict_in
another_end = refl

another_delivery : verdict_in multicast (sent ++ (from_with 0 (ATransfer (first 1)) hi ∷ carry 1 26 (first 1) hi ∷ says_of 1 accepted ∷ [])) 26 13 ≡ None
unfolding verdict_in
another_delivery = refl

-- ---- copies that await theirs

awaited_unsent : awaits_in multicast (completed Mixed Mixed) 24 13 ≡ true
unfolding awaits_in
awaited_unsent = refl

awaited_no_more : awaits_in multicast (sent ++ (says_of 1 released ∷ [])) 24 13 ≡ false
unfolding awaits_in
awaited_no_more = refl

-- nothing is due to a link without credit
not_due : awaits_in multicast (attached Mixed Mixed ++ (from_with 0 (ATransfer (first 0)) hi ∷ [])) 22 13 ≡ false
unfolding awaits_in
not_due = refl

-- a copy comes due with the completion, and awaits its verdict with every record behind it
comes_due : awaits_by multicast (attached Mixed Mixed ++ (from 1 (AFlow (gives 0 0 10)) ∷ [])) (from_with 0 (ATransfer (first 0)) hi) 23 13 ≡ true
unfolding awaits_by
comes_due = refl

comes_due_to_none : awaits_by multicast (attached Mixed Mixed ++ (from 1 (AFlow (gives 0 0 10)) ∷ [])) (from_with 0 (ATransfer (first 0)) hi) 23 20 ≡ false
unfolding awaits_by
comes_due_to_none = refl

awaits_on : awaits_by multicast sent (says_of 1 released) 24 13 ≡ true
unfolding awaits_by
awaits_on = refl

awaits_nothing : awaits_by multicast (sent ++ (says_of 1 released ∷ [])) (leaves 1) 24 13 ≡ false
unfolding awaits_by
awaits_nothing = refl

-- ---- what one more record gives

gives_decision : given_by multicast sent (says_of 1 released) 24 13 ≡ Some Released
unfolding given_by
gives_decision = refl

gives_modified_at_the_end : given_by multicast sent (leaves 1) 24 13 ≡ Some Modified
unfolding given_by
gives_modified_at_the_end = refl

gives_accepted_with_its_last_part : given_by multicast (completed Settled Mixed) (carry 1 24 (as_settled (first 0)) hi) 24 13 ≡ Some Accepted
unfolding given_by
gives_accepted_with_its_last_part = refl

gives_nothing_with_another_part : given_by multicast (completed Settled Mixed) (carry 1 24 (with_more (as_settled (first 0))) (0x68 ∷ [])) 24 13 ≡ None
unfolding given_by
gives_nothing_with_another_part = refl

gives_nothing_with_an_unsettled_part : given_by multicast (completed Mixed Mixed) (copy_to 1) 24 13 ≡ None
unfolding given_by
gives_nothing_with_an_unsettled_part = refl

gives_nothing_to_another_link : given_by multicast (sent ++ (copy_to 2 ∷ [])) (says_of 2 released) 24 13 ≡ None
unfolding given_by
gives_nothing_to_another_link = refl
