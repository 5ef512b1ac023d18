-- What captures say of the deliveries to settle, the copies to send and the outcomes to tell, and of what one more record
-- does to them.
use Rattle.std.specs.Prelude.{◌≡◌, List, true, false, [], ◌∷◌, ◌++◌, None, refl}
use Rattle.amqp_perf.specs.declared.attach.Role.TheVariants.{Receiver}
use Rattle.amqp_perf.specs.declared.attach.SenderSettleMode.TheVariants.{Settled}
use Rattle.amqp_perf.specs.Meaning.{AFlow, ATransfer, ADisposition}
use Rattle.pairing_cert.specs.declared.note.Why.TheVariants.{C}
use Rattle.capture_form.specs.declared.records.Record.{Record}
use Rattle.capture_form.specs.declared.rules.Distribution.TheVariants.{Multicast}
use Rattle.trace_events.proofs.Captures.{rule, to_settle_in, unsent_in, is_unsettled_in, is_closed_in, is_kept_by, is_answered_by, is_closed_by, comes_by, comes_due_by, to_tell_in, has_outcome_in, is_answered_in, answers_by, gets_by}
use Rattle.trace_events.proofs.Made.{from, from_with, carry, tell, gives, first, next, with_more, as_settled, disposes, accepted, detach_of, q, hi, pair_by, sent, sent_by, carried, accepts, finishes, producer_settles, tells, router_settles}

-- ---- deliveries to settle

is_owed : to_settle_in [] (carried ++ (accepts ∷ tells ∷ [])) ≡ 17 ∷ []
unfolding to_settle_in
is_owed = refl

-- the first begun first
two_owed : to_settle_in [] (carried ++ (from_with 0 (ATransfer (first 1)) hi ∷ carry 1 18 (first 1) hi ∷ from 1 (ADisposition (disposes Receiver 1 false accepted)) ∷ tell 0 C (disposes Receiver 1 true accepted)
    ∷ accepts ∷ tells ∷ [])) ≡ 17 ∷ 19 ∷ []
unfolding to_settle_in
two_owed = refl

undecided : to_settle_in [] (carried ++ (producer_settles ∷ [])) ≡ []
unfolding to_settle_in
undecided = refl

still_to_tell : to_settle_in [] (carried ++ (accepts ∷ [])) ≡ []
unfolding to_settle_in
still_to_tell = refl

-- ---- a delivery that stands unsettled

stands : is_unsettled_in [] (carried ++ (accepts ∷ tells ∷ [])) 17 ≡ true
unfolding is_unsettled_in
stands = refl

settled_by_consumer : is_unsettled_in [] (carried ++ (finishes ∷ [])) 17 ≡ false
unfolding is_unsettled_in
settled_by_consumer = refl

settled_by_router : is_unsettled_in [] (carried ++ (accepts ∷ tells ∷ router_settles ∷ [])) 17 ≡ false
unfolding is_unsettled_in
settled_by_router = refl

link_over : is_unsettled_in [] (carried ++ (from 1 (detach_of true) ∷ [])) 17 ≡ false
unfolding is_unsettled_in
link_over = refl

-- nothing more is to be told of what it carries
all_told : is_closed_in [] (carried ++ (accepts ∷ tells ∷ [])) 17 ≡ true
unfolding is_closed_in
all_told = refl

not_told : is_closed_in [] (carried ++ (accepts ∷ [])) 17 ≡ false
unfolding is_closed_in
not_told = refl

-- ---- what one more record leaves, decides or closes

leaves : is_kept_by [] (carried ++ (accepts ∷ tells ∷ [])) (from 1 (AFlow (gives 1 1 10))) 17 ≡ true
unfolding is_kept_by
leaves = refl

consumer_settles : is_kept_by [] (carried ++ (accepts ∷ tells ∷ [])) finishes 17 ≡ false
unfolding is_kept_by
consumer_settles = refl

is_settled : is_kept_by [] (carried ++ (accepts ∷ tells ∷ [])) router_settles 17 ≡ false
unfolding is_kept_by
is_settled = refl

ends_link : is_kept_by [] (carried ++ (accepts ∷ tells ∷ [])) (from 1 (detach_of true)) 17 ≡ false
unfolding is_kept_by
ends_link = refl

decides : is_answered_by [] carried accepts 17 ≡ true
unfolding is_answered_by
decides = refl

-- without settling or a terminal state
decides_nothing : is_answered_by [] carried (from 1 (ADisposition (disposes Receiver 0 false None))) 17 ≡ false
unfolding is_answered_by
decides_nothing = refl

-- on a link that is settled beforehand
pre_settled : is_answered_by [] (sent_by Settled ++ (carry 1 16 (as_settled (first 0)) hi ∷ [])) accepts 17 ≡ false
unfolding is_answered_by
pre_settled = refl

is_told : is_closed_by [] (carried ++ (accepts ∷ [])) tells 16 ≡ true
unfolding is_closed_by
is_told = refl

settled_by_producer : is_closed_by [] carried producer_settles 16 ≡ true
unfolding is_closed_by
settled_by_producer = refl

-- by its last part
settled_part : is_closed_by [] (pair_by Settled ++ (from_with 0 (ATransfer (with_more (first 0))) hi ∷ [])) (from_with 0 (ATransfer (as_settled (next false))) hi) 15 ≡ true
unfolding is_closed_by
settled_part = refl

producer_left : is_closed_by [] carried (from 0 (detach_of true)) 16 ≡ true
unfolding is_closed_by
producer_left = refl

closes_nothing : is_closed_by [] carried accepts 16 ≡ false
unfolding is_closed_by
closes_nothing = refl

-- ---- what comes to be settled

-- told, of a delivery that was decided
comes_told : comes_by [] (carried ++ (accepts ∷ [])) tells 17 ≡ true
unfolding comes_by
comes_told = refl

-- decided, where nothing more is to be told
comes_decided : comes_by [] (carried ++ (producer_settles ∷ [])) accepts 17 ≡ true
unfolding comes_by
comes_decided = refl

-- decided, where the outcome is still to be told
not_closed : comes_by [] carried accepts 17 ≡ false
unfolding comes_by
not_closed = refl

-- closed, where the consumer hasn't decided
not_decided : comes_by [] carried producer_settles 17 ≡ false
unfolding comes_by
not_decided = refl

-- told, where the consumer settled it itself
not_unsettled : comes_by [] (carried ++ (finishes ∷ [])) tells 17 ≡ false
unfolding comes_by
not_unsettled = refl

-- ---- copies to send

abbrev news : List Record
news = pair_by Settled ++ (from 1 (AFlow (gives 0 0 1)) ∷ [])

copy_is_due : comes_due_by (rule Multicast q ∷ []) news (from_with 0 (ATransfer (first 0)) hi) 13 ≡ true
unfolding comes_due_by
copy_is_due = refl

-- no more than the credit allows
no_credit_left : comes_due_by (rule Multicast q ∷ []) (news ++ (from_with 0 (ATransfer (first 0)) hi ∷ [])) (from_with 0 (ATransfer (first 1)) hi) 13 ≡ false
unfolding comes_due_by
no_credit_left = refl

is_unsent : unsent_in (rule Multicast q ∷ []) (news ++ (from_with 0 (ATransfer (first 0)) hi ∷ [])) 13 ≡ 16 ∷ []
unfolding unsent_in
is_unsent = refl

is_sent : unsent_in (rule Multicast q ∷ []) (news ++ (from_with 0 (ATransfer (first 0)) hi ∷ carry 1 16 (as_settled (first 0)) hi ∷ [])) 13 ≡ []
unfolding unsent_in
is_sent = refl

-- the first completed first
two_unsent : unsent_in (rule Multicast q ∷ []) (sent_by Settled ++ (from_with 0 (ATransfer (first 1)) hi ∷ [])) 13 ≡ 16 ∷ 17 ∷ []
unfolding unsent_in
two_unsent = refl

-- of anycast there are none
no_copies : unsent_in [] (sent_by Settled) 13 ≡ []
unfolding unsent_in
no_copies = refl

-- ---- outcomes to tell

is_untold : to_tell_in [] (carried ++ (accepts ∷ [])) ≡ 16 ∷ []
unfolding to_tell_in
is_untold = refl

told_already : to_tell_in [] (carried ++ (accepts ∷ tells ∷ [])) ≡ []
unfolding to_tell_in
told_already = refl

-- the first begun first
two_untold : to_tell_in [] (sent ++ (from_with 0 (ATransfer (first 1)) hi ∷ from 1 (detach_of true) ∷ [])) ≡ 16 ∷ 17 ∷ []
unfolding to_tell_in
two_untold = refl

-- by the consumer's decision, by the last part on a link that is settled beforehand, or by the end of the link
answered_by_consumer : is_answered_in [] (carried ++ (accepts ∷ [])) 17 ≡ true
unfolding is_answered_in
answered_by_consumer = refl

answered_by_sending : is_answered_in [] (sent_by Settled ++ (carry 1 16 (as_settled (first 0)) hi ∷ [])) 17 ≡ true
unfolding is_answered_in
answered_by_sending = refl

answered_by_end : is_answered_in [] (carried ++ (from 1 (detach_of true) ∷ [])) 17 ≡ true
unfolding is_answered_in
answered_by_end = refl

not_answered : is_answered_in [] carried 17 ≡ false
unfolding is_answered_in
not_answered = refl

-- complete, and gone or answered; one of multicast with a verdict of each copy
outcome_of_copies : has_outcome_in (rule Multicast q ∷ []) (carried ++ (accepts ∷ [])) 16 ≡ true
unfolding has_outcome_in
outcome_of_copies = refl

none_without_verdict : has_outcome_in (rule Multicast q ∷ []) carried 16 ≡ false
unfolding has_outcome_in
none_without_verdict = refl

outcome_of_gone : has_outcome_in [] (sent ++ (from 1 (detach_of true) ∷ [])) 16 ≡ true
unfolding has_outcome_in
outcome_of_gone = refl

outcome_of_answered : has_outcome_in [] (carried ++ (accepts ∷ [])) 16 ≡ true
unfolding has_outcome_in
outcome_of_answered = refl

none_while_it_waits : has_outcome_in [] sent 16 ≡ false
unfolding has_outcome_in
none_while_it_waits = refl

none_before_completion : has_outcome_in (rule Multicast q ∷ []) (pair_by Settled ++ (from_with 0 (ATransfer (with_more (first 0))) hi ∷ [])) 15 ≡ false
unfolding has_outcome_in
none_before_completion = refl

-- what one more record answers
answers_deciding : answers_by [] carried accepts 17 ≡ true
unfolding answers_by
answers_deciding = refl

answers_ending : answers_by [] carried (from 1 (detach_of true)) 17 ≡ true
unfolding answers_by
answers_ending = refl

answers_last : answers_by [] (sent_by Settled ++ (carry 1 16 (with_more (as_settled (first 0))) (0x68 ∷ []) ∷ [])) (carry 1 16 (next false) (0x69 ∷ [])) 17 ≡ true
unfolding answers_by
answers_last = refl

-- with more to come, or on a link that is not settled beforehand
answers_not_yet : answers_by [] (sent_by Settled ++ (carry 1 16 (with_more (as_settled (first 0))) (0x68 ∷ []) ∷ [])) (carry 1 16 (next true) []) 17 ≡ false
unfolding answers_by
answers_not_yet = refl

answers_unsettled_no : answers_by [] (sent ++ (carry 1 16 (with_more (first 0)) (0x68 ∷ []) ∷ [])) (carry 1 16 (next false) (0x69 ∷ [])) 17 ≡ false
unfolding answers_by
answers_unsettled_no = refl

-- and gives an outcome: of multicast with the completion, where no copy is due, and with the last verdict
gets_complete : gets_by (rule Multicast q ∷ []) (pair_by Settled ++ (from_with 0 (ATransfer (with_more (first 0))) hi ∷ [])) (from_with 0 (ATransfer (next false)) hi) 15 ≡ true
unfolding gets_by
gets_complete = refl

gets_last : gets_by (rule Multicast q ∷ []) carried accepts 16 ≡ true
unfolding gets_by
gets_last = refl

gets_no_verdict : gets_by (rule Multicast q ∷ []) sent (carry 1 16 (first 0) hi) 16 ≡ false
unfolding gets_by
gets_no_verdict = refl

gets_once : gets_by (rule Multicast q ∷ []) (carried ++ (accepts ∷ [])) (from 1 (detach_of true)) 16 ≡ false
unfolding gets_by
gets_once = refl

due_copy_unsent : gets_by (rule Multicast q ∷ []) (pair_by Settled ++ (from 1 (AFlow (gives 0 0 1)) ∷ from_with 0 (ATransfer (with_more (first 0))) hi ∷ [])) (from_with 0 (ATransfer (next false)) hi) 16 ≡ false
unfolding gets_by
due_copy_unsent = refl

-- completed where its address has a consumer, it waits; where there is none it is gone at once
gets_waiting : gets_by [] (pair_by Settled ++ (from_with 0 (ATransfer (with_more (first 0))) hi ∷ [])) (from_with 0 (ATransfer (next false)) hi) 15 ≡ false
unfolding gets_by
gets_waiting = refl

gets_gone : gets_by [] (pair_by Settled ++ (from_with 0 (ATransfer (with_more (first 0))) hi ∷ from 1 (detach_of true) ∷ [])) (from_with 0 (ATransfer (next false)) hi) 15 ≡ true
unfolding gets_by
gets_gone = refl

gets_left : gets_by [] sent (from 1 (detach_of true)) 16 ≡ true
unfolding gets_by
gets_left = refl

gets_answered : gets_by [] carried accepts 16 ≡ true
unfolding gets_by
gets_answered = refl

gets_none : gets_by [] sent (carry 1 16 (first 0) hi) 16 ≡ false
unfolding gets_by
gets_none = refl
