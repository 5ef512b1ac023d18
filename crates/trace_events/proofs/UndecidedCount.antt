-- The undecided deliveries of a producer's link are counted by steps.
use Rattle.std.proofs.Common.{◌≡◌, refl, sym, ap, ◌∙◌, ℕ, ◌+◌, ◌-◌, List, [], ◌∷◌, Bool, true, false, cond, not, ◌&&◌, Option, Some, None, arith}
use Rattle.std.specs.List.{cons_option, count_by, AllByRecursion}
use Rattle.std.proofs.lemmas.List.Sums.{sum_by-cons}
use Rattle.capture_form.specs.declared.records.Record.{Record}
use Rattle.capture_form.specs.Rules.{RuleSet}
use Rattle.trace_events.specs.Words.{is_some_and}
use Rattle.trace_events.specs.Event.{Link, Event, Incoming}
use Rattle.trace_events.specs.Incoming.{incoming_begun, incoming_deliveries, is_from}
use Rattle.trace_events.specs.Waiting.{is_undecided, undecided_count}
use Rattle.trace_events.specs.Decided.{decided_count, begins_undecided}
use Rattle.trace_events.specs.History.{judge}
use Rattle.trace_events.proofs.Parts.{IsKept, AreKept, all_such, each_delivery}
use Rattle.trace_events.proofs.Undecided.{undecided_before}

-- ---- counts of two tests

one_more : {A : Type 0} (p : A → Bool) (x : A) (xs : List A) → count_by p (x ∷ xs) ≡ cond (p x) 1 0 + count_by p xs
one_more p x xs = sum_by-cons (λ y. cond (p y) 1 0) x xs

perhaps_one : {A : Type 0} (p : A → Bool) (o : Option A) (xs : List A) → count_by p (cons_option o xs) ≡ cond (is_some_and o p) 1 0 + count_by p xs
perhaps_one p None xs = omega arith
perhaps_one p (Some x) xs = one_more p x xs

parts_one : (on now was : Bool) → (now ≡ true → was ≡ true) → cond (on && now) 1 0 + cond (on && (was && not now)) 1 0 ≡ cond (on && was) 1 0
parts_one false now was still = refl
parts_one true false false still = refl
parts_one true false true still = refl
parts_one true true true still = refl
parts_one true true false still = let never : false ≡ true = still refl in absurd cc

pairwise : (a b c m n k : ℕ) → a + b ≡ c → m + n ≡ k → (a + m) + (b + n) ≡ c + k
pairwise a b c m n k first rest = omega (arith, first, rest)

-- those that are still so, and those that are no more, are those that were
parts_count : {A : Type 0} (on now was : A → Bool) (xs : List A) → AllByRecursion (λ x. now x ≡ true → was x ≡ true) xs
    → count_by (λ x. on x && now x) xs + count_by (λ x. on x && (was x && not (now x))) xs ≡ count_by (λ x. on x && was x) xs
parts_count on now was [] still = refl
parts_count on now was (x ∷ xs) still =
    ap (λ n. n + count_by (λ x. on x && (was x && not (now x))) (x ∷ xs)) (one_more (λ x. on x && now x) x xs)
    ∙ (ap (λ n. (cond (on x && now x) 1 0 + count_by (λ x. on x && now x) xs) + n) (one_more (λ x. on x && (was x && not (now x))) x xs)
    ∙ (pairwise (cond (on x && now x) 1 0) (cond (on x && (was x && not (now x))) 1 0) (cond (on x && was x) 1 0)
    (count_by (λ x. on x && now x) xs) (count_by (λ x. on x && (was x && not (now x))) xs) (count_by (λ x. on x && was x) xs)
    (parts_one (on x) (now x) (was x) still.0) (parts_count on now was xs still.1)
    ∙ sym (one_more (λ x. on x && was x) x xs)))

moved : (count old gone was new : ℕ) → count ≡ new + old → old + gone ≡ was → count + gone ≡ new + was
moved count old gone was new is parts = omega (arith, is, parts)

less : (count gone was new : ℕ) → count + gone ≡ new + was → count ≡ (new + was) - gone
less count gone was new is = omega (arith, is)

-- ---- a step

module _ (rules : RuleSet) (l : Link) (past : List Event) (r : Record) (all : AreKept rules past) where
  abbrev now : Event
  now = judge rules past r

  -- no delivery is undecided again
  still : AllByRecursion (λ d. is_undecided rules d (now ∷ past) ≡ true → is_undecided rules d past ≡ true) (incoming_deliveries past)
  still =
      all_such (IsKept past) (λ d. is_undecided rules d (now ∷ past) ≡ true → is_undecided rules d past ≡ true) (incoming_deliveries past)
      (λ d kept. undecided_before rules past r d all kept.link.before) (each_delivery (IsKept past) past all.each)

  -- one more where the event begins one, and as many fewer as it decides
  pub undecided_count_moves : undecided_count rules l (now ∷ past) + decided_count rules l now past ≡ cond (begins_undecided rules l now past) 1 0 + undecided_count rules l past
  undecided_count_moves =
      moved (undecided_count rules l (now ∷ past)) (count_by (λ d. is_from l d && is_undecided rules d (now ∷ past)) (incoming_deliveries past)) (decided_count rules l now past)
      (undecided_count rules l past) (cond (begins_undecided rules l now past) 1 0)
      (perhaps_one (λ (d : Incoming). is_from l d && is_undecided rules d (now ∷ past)) (incoming_begun now) (incoming_deliveries past))
      (parts_count (is_from l) (λ d. is_undecided rules d (now ∷ past)) (λ d. is_undecided rules d past) (incoming_deliveries past) still)

  pub undecided_count_is : undecided_count rules l (now ∷ past) ≡ (cond (begins_undecided rules l now past) 1 0 + undecided_count rules l past) - decided_count rules l now past
  undecided_count_is =
      less (undecided_count rules l (now ∷ past)) (decided_count rules l now past) (undecided_count rules l past) (cond (begins_undecided rules l now past) 1 0) undecided_count_moves
