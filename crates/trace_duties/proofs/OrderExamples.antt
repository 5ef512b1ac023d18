-- Copies that are sent in the order of completion, and in another.
use Rattle.std.specs.Prelude.{◌≡◌, ℕ, List, true, false, [], ◌∷◌, ◌++◌, codes, None, refl}
use Rattle.amqp_perf.specs.declared.attach.SenderSettleMode.TheVariants.{Settled}
use Rattle.amqp_perf.specs.Meaning.{AFlow, ATransfer}
use Rattle.capture_form.specs.declared.records.Record.{Record}
use Rattle.capture_form.specs.declared.rules.Distribution.TheVariants.{Multicast}
use Rattle.trace_events.proofs.Captures.{rule, unsent_in, broken_of}
use Rattle.trace_events.proofs.Made.{from, from_with, to, carry, gives, shows, first, as_settled, producer, hi, pair_by, multicast, two_sent_by}
use Rattle.trace_duties.proofs.Captures.{is_in_order_on, is_unsent_at, is_in_order_at, is_earliest_by}

-- copies of deliveries 16 and 17 are due to the consumer's link, that of record 13
both_are_due : unsent_in multicast (two_sent_by Settled) 13 ≡ 16 ∷ 17 ∷ []
unfolding unsent_in
both_are_due = refl

-- before anything is sent, each is in order
first_in_order : is_in_order_on multicast (two_sent_by Settled) 13 16 ≡ true
unfolding is_in_order_on
first_in_order = refl

second_in_order : is_in_order_on multicast (two_sent_by Settled) 13 17 ≡ true
unfolding is_in_order_on
second_in_order = refl

-- the first is sent
sends_first : is_earliest_by multicast (two_sent_by Settled) (carry 1 16 (as_settled (first 0)) hi) ≡ true
unfolding is_earliest_by
sends_first = refl

second_next : is_in_order_on multicast (two_sent_by Settled ++ (carry 1 16 (as_settled (first 0)) hi ∷ [])) 13 17 ≡ true
unfolding is_in_order_on
second_next = refl

-- the second is sent, which breaks no clause; then the first is unsent still, and out of order
abbrev swapped : List Record
swapped = two_sent_by Settled ++ (carry 1 17 (as_settled (first 0)) hi ∷ [])

sends_second : is_earliest_by multicast (two_sent_by Settled) (carry 1 17 (as_settled (first 0)) hi) ≡ false
unfolding is_earliest_by
sends_second = refl

is_lawful : broken_of multicast swapped ≡ None
unfolding broken_of
is_lawful = refl

first_unsent : unsent_in multicast swapped 13 ≡ 16 ∷ []
unfolding unsent_in
first_unsent = refl

out_of_order : is_in_order_on multicast swapped 13 16 ≡ false
unfolding is_in_order_on
out_of_order = refl

-- what begins nothing sends nothing
sends_nothing : is_earliest_by multicast (two_sent_by Settled) (from 1 (AFlow (gives 0 0 10))) ≡ true
unfolding is_earliest_by
sends_nothing = refl

-- ---- the link must be one that a record opened

-- delivery 24 is for p and delivery 25 for q, to whose consumer it is sent
abbrev p : List ℕ
p = codes "p"

abbrev elsewhere : List Record
elsewhere =
    pair_by Settled ++ producer 2 p ++ (to 2 (AFlow (shows 0 0 0 250)) ∷ from 1 (AFlow (gives 0 0 10)) ∷ from_with 2 (ATransfer (first 0)) hi ∷ from_with 0 (ATransfer (first 0)) hi
    ∷ carry 1 25 (as_settled (first 0)) hi ∷ [])

both_lawful : broken_of (rule Multicast p ∷ multicast) elsewhere ≡ None
unfolding broken_of
both_lawful = refl

-- of a link that has the number of record 13's, and the address p, which none has, this is not so
would_be_unsent : is_unsent_at (rule Multicast p ∷ multicast) elsewhere 13 p 24 ≡ true
unfolding is_unsent_at
would_be_unsent = refl

would_be_out_of_order : is_in_order_at (rule Multicast p ∷ multicast) elsewhere 13 p 24 ≡ false
unfolding is_in_order_at
would_be_out_of_order = refl
