-- What it means that each event of a producer's link was allowed.
use Rattle.std.proofs.Common.{subst, ℕ, ◌+◌, ◌<◌, IsTrue, List, [], ◌∷◌, ◌++◌, length, take, drop, get_or, reverse, arith}
use Rattle.std.proofs.lemmas.Bool.{and_parts, and_from, ltb-true}
use Rattle.flow_counts.specs.GivenCredit.{given_credit}
use Rattle.link_credit.specs.declared.history.ProducerEvent.{ProducerEvent}
use Rattle.link_credit.specs.declared.history.ProducerEvent.TheVariants.{TheirFlow, Begun, Told, ToppedUp}
use Rattle.link_credit.specs.ProducerHistory.{link_events, is_allowed, stays_within, IsWithinCredit}
use Rattle.flow_counts.proofs.Newest.{reverse-next, reverse-all, reverse-split}

-- the newest event was allowed, and so were the earlier ones
pub allowed_in_front : (first : ℕ) (event : ProducerEvent) (earlier : List ProducerEvent) → IsTrue (stays_within first (event ∷ earlier))
    → IsTrue (is_allowed first (link_events first earlier) event)
allowed_in_front first event earlier h = (and_parts (is_allowed first (link_events first earlier) event) (stays_within first earlier) h).0

pub within_behind : (first : ℕ) (event : ProducerEvent) (earlier : List ProducerEvent) → IsTrue (stays_within first (event ∷ earlier)) → IsTrue (stays_within first earlier)
within_behind first event earlier h = (and_parts (is_allowed first (link_events first earlier) event) (stays_within first earlier) h).1

within_before : (first : ℕ) (later earlier : List ProducerEvent) → IsTrue (stays_within first (later ++ earlier)) → IsTrue (stays_within first earlier)
within_before first [] earlier h = h
within_before first (event ∷ later) earlier h = within_before first later earlier (within_behind first event (later ++ earlier) h)

-- where all were allowed, the one at each place was
pub allowed_at : (first : ℕ) (events : List ProducerEvent) (i : ℕ) (d : ProducerEvent) → i < length events → IsTrue (stays_within first (reverse events))
    → IsTrue (is_allowed first (link_events first (reverse (take i events))) (get_or events i d))
allowed_at first events i d lt h =
    let all : IsTrue (stays_within first (reverse (drop (i + 1) events) ++ reverse (take (i + 1) events))) = subst (λ p. IsTrue (stays_within first p)) (reverse-split events (i + 1)) h in
    let upto = within_before first (reverse (drop (i + 1) events)) (reverse (take (i + 1) events)) all in
    allowed_in_front first (get_or events i d) (reverse (take i events)) (subst (λ p. IsTrue (stays_within first p)) (reverse-next events i d lt) upto)

-- one event further
pub within_next : (first : ℕ) (events : List ProducerEvent) (i : ℕ) (d : ProducerEvent) → i < length events
    → IsTrue (is_allowed first (link_events first (reverse (take i events))) (get_or events i d)) → IsTrue (stays_within first (reverse (take i events)))
    → IsTrue (stays_within first (reverse (take (i + 1) events)))
within_next first events i d lt allowed earlier = rw (reverse-next events i d lt) (and_from _ _ allowed earlier)

-- where all were allowed, no more began than there was credit for
pub within_credit : (first : ℕ) (events : List ProducerEvent) → IsTrue (stays_within first events) → IsWithinCredit (link_events first events)
within_credit first [] h = record { begun = omega arith }
within_credit first (TheirFlow known granted drain ∷ events) h = record { begun = (within_credit first events (within_behind first (TheirFlow known granted drain) events h)).begun }
within_credit first (Begun ∷ events) h =
    let earlier = within_credit first events (within_behind first Begun events h) in
    let left : 0 < given_credit (link_events first events) = ltb-true 0 (given_credit (link_events first events)) (allowed_in_front first Begun events h) in
    record { begun = omega arith }
within_credit first (Told ∷ events) h = record { begun = omega arith }
within_credit first (ToppedUp undecided ∷ events) h = record { begun = omega arith }

pub ruleset produced = (allowed_at, within_next, within_credit, reverse-next, reverse-all)
