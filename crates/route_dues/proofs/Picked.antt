-- The link that is picked is a consumer's live one of the address, and may take a delivery.
use Rattle.std.proofs.Common.{◌≡◌, sym, ap, subst, ◌∙◌, ℕ, inl, inr, List, [], ◌∷◌, map, length, ◌<◌, Bool, true, false, ◌&&◌, Some, if◌then◌else◌}
use Rattle.std.specs.Prelude.{Contains, filter, bytes_eq}
use Rattle.std.specs.List.{best_of}
use lib.Pointwise.{bytes_decides}
use Rattle.capture_form.specs.Rules.{RuleSet}
use Rattle.capture_form.specs.declared.rules.Distribution.{Distribution}
use Rattle.capture_form.specs.declared.rules.Distribution.TheVariants.{Closest, Balanced, Multicast}
use Rattle.capture_form.specs.Addresses.{distribution}
use Rattle.flow_counts.specs.Picks as picks
use Rattle.flow_counts.specs.Picks.{AddressEvent, best, closest_rank, balanced_rank}
use Rattle.address_table.specs.Picking.{pick_of}
use Rattle.trace_events.specs.Words.{is_some_and}
use Rattle.trace_events.specs.Event.{Event, Link, Incoming}
use Rattle.trace_events.specs.Link.{links, link_at, is_live, is_consumer}
use Rattle.trace_events.specs.Address.{consumers, is_consumer_of}
use Rattle.trace_events.specs.Incoming.{address_of}
use Rattle.trace_events.proofs.Along.{and_first, and_last}
use Rattle.trace_events.proofs.Judged.{AreJudged}
use Rattle.trace_events.proofs.LinkNumbers.{links-found}
use Rattle.trace_events.proofs.OneOutcome.{number-some}
use Rattle.trace_events.proofs.WaitingQueue.{contains_first, contains_later, contains_none, contains_cases, all_contained, in_reverse, in_filter}
use Rattle.trace_duties.specs.Consumers.{address_events}
use Rattle.trace_events.specs.TransferClause.{may_take}
use Rattle.trace_duties.specs.Pick.{is_eligible, pick}
use Rattle.trace_duties.specs.Diligent.{is_picked_link}
use Rattle.trace_duties.proofs.ConsumersCounted.{consumers-counted}

-- ---- lists

same_some : {A : Type 0} (a b : A) → Some a ≡ Some b → a ≡ b
same_some a b is = cc

better : {A : Type 0} (b : Bool) (x a : A) (xs : List A) (y : A) → Contains ((if b then x else a) ∷ xs) y → Contains (a ∷ x ∷ xs) y
better true x a xs y there = contains_later a (x ∷ xs) y there
better false x a xs y there = elim (contains_cases a xs y there) [
  | inl same ↦ subst (λ z. Contains (a ∷ x ∷ xs) z) same (contains_first a (x ∷ xs))
  | inr later ↦ contains_later a (x ∷ xs) y (contains_later x xs y later)
]

best_of-in : {A : Type 0} (beats : A → A → Bool) (a : A) (xs : List A) → Contains (a ∷ xs) (best_of beats a xs)
best_of-in beats a [] = contains_first a []
best_of-in beats a (x ∷ xs) = better (beats x a) x a xs (best_of beats a (x ∷ xs)) (best_of-in beats (if beats x a then x else a) xs)

best-in : {A : Type 0} (beats : A → A → Bool) (xs : List A) (x : A) → best beats xs ≡ Some x → Contains xs x
best-in beats [] x is = absurd cc
best-in beats (y ∷ ys) x is = subst (λ z. Contains (y ∷ ys) z) (same_some (best_of beats y ys) x is) (best_of-in beats y ys)

in_map : {A B : Type 0} (f : A → B) (xs : List A) (y : B) → Contains (map f xs) y → (x : A) × Contains xs x × (f x ≡ y)
in_map f [] y there = contains_none y there
in_map f (x ∷ xs) y there = elim (contains_cases (f x) (map f xs) y there) [
  | inl same ↦ (x, contains_first x xs, same)
  | inr later ↦ let h = in_map f xs y later in (h.0, contains_later x xs h.0 h.1, h.2)
]

-- ---- picks

picked_from : (by : Distribution) (test : ℕ → Bool) (address : List ℕ) (events : List AddressEvent) (n : ℕ) → pick_of by test address events ≡ Some n → Contains (filter test (picks.consumers address events)) n
picked_from Closest test address events n is = best-in _ (filter test (picks.consumers address events)) n is
picked_from Balanced test address events n is = best-in _ (filter test (picks.consumers address events)) n is
picked_from Multicast test address events n is = absurd cc

pub record IsPicked (past : List Event) (d : Incoming) (l : Link) : Type 0 where
  pub consumes : is_consumer l ≡ true
  pub address : address_of d past ≡ l.address
  pub lives : is_live past l ≡ true
  pub takes : may_take past l ≡ true

module _ (rules : RuleSet) (past : List Event) (are : AreJudged rules past) (d : Incoming) (l : Link) (at : link_at l.number past ≡ Some l) (picked : is_picked_link rules past d l ≡ true) where
  chosen : Contains (filter (is_eligible past) (picks.consumers (address_of d past) (address_events past))) l.number
  chosen = picked_from (distribution rules (address_of d past)) (is_eligible past) (address_of d past) (address_events past) l.number (number-some (pick rules (address_of d past) past) l.number picked)

  eligible : is_eligible past l.number ≡ true
  eligible = (in_filter (is_eligible past) (picks.consumers (address_of d past) (address_events past)) l.number chosen).1

  counted : Contains (map (λ (m : Link). m.number) (consumers (address_of d past) past)) l.number
  counted =
      subst (λ xs. Contains xs l.number) (consumers-counted rules past are (address_of d past))
      (in_filter (is_eligible past) (picks.consumers (address_of d past) (address_events past)) l.number chosen).0

  consuming : is_consumer_of (address_of d past) past l ≡ true
  consuming =
      let m = in_map (λ (m : Link). m.number) (consumers (address_of d past) past) l.number counted in
      let listed = in_filter (is_consumer_of (address_of d past) past) (links past) m.0 (in_reverse (filter (is_consumer_of (address_of d past) past) (links past)) m.0 m.1) in
      let found = all_contained (λ x. (link_at x.number past ≡ Some x) × (x.number < length past)) (links past) m.0 (links-found rules past are) listed.0 in
      subst (λ x. is_consumer_of (address_of d past) past x ≡ true) (same_some m.0 l (sym found.0 ∙ (ap (λ n. link_at n past) m.2 ∙ at))) listed.1

  pub is_picked-link : IsPicked past d l
  is_picked-link =
      let both = and_first (is_consumer l && bytes_eq l.address (address_of d past)) (is_live past l) consuming in
      record {
        consumes = and_first (is_consumer l) (bytes_eq l.address (address_of d past)) both;
        address = sym ((bytes_decides l.address (address_of d past)).0 (and_last (is_consumer l) (bytes_eq l.address (address_of d past)) both));
        lives = and_last (is_consumer l && bytes_eq l.address (address_of d past)) (is_live past l) consuming;
        takes = sym (ap (λ o. is_some_and o (may_take past)) at) ∙ eligible;
      }
