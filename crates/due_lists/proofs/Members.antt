-- Some of a list that passes, and none that does.
use Rattle.std.proofs.Common.{◌≡◌, refl, sym, ap, subst, ◌∙◌, Bool, true, false, ◌||◌, inl, inr, List, [], ◌∷◌, Option, Some, None, find, if◌then◌else◌}
use Rattle.std.specs.Prelude.{Contains}
use Rattle.std.specs.List.{list_any, cons_option}
use Rattle.trace_events.proofs.WaitingQueue.{contains_none, contains_cases, contains_first, contains_later}

module _ {A : Type 0} (test : A → Bool) where
  pub some-passes : (xs : List A) → list_any test xs ≡ true → (x : A) × (Contains xs x × (test x ≡ true))
  some-passes [] is = absurd cc
  some-passes (y ∷ ys) is = by (test y) refl is (some-passes ys)
    where
      by : (b : Bool) → test y ≡ b → b || list_any test ys ≡ true → (list_any test ys ≡ true → (x : A) × (Contains ys x × (test x ≡ true)))
          → (x : A) × (Contains (y ∷ ys) x × (test x ≡ true))
      by true is some rest = (y, (contains_first y ys, is))
      by false is some rest = let there = rest some in (there.0, (contains_later y ys there.0 there.1.0, there.1.1))

  either-none : (b c : Bool) → b || c ≡ false → (b ≡ false) × (c ≡ false)
  either-none false c is = (refl, is)
  either-none true c is = absurd cc

  pub none-passes : (xs : List A) → list_any test xs ≡ false → (x : A) → Contains xs x → test x ≡ false
  none-passes [] none x there = contains_none x there
  none-passes (y ∷ ys) none x there = elim (contains_cases y ys x there) [
    | inl same ↦ ap test (sym same) ∙ (either-none (test y) (list_any test ys) none).0
    | inr later ↦ none-passes ys (either-none (test y) (list_any test ys) none).1 x later
  ]

pub contains-more : {A : Type 0} (o : Option A) (xs : List A) (x : A) → Contains xs x → Contains (cons_option o xs) x
contains-more None xs x there = there
contains-more (Some y) xs x there = contains_later y xs x there

pub found-contained : {A : Type 0} (test : A → Bool) (xs : List A) (x : A) → find test xs ≡ Some x → Contains xs x
found-contained test [] x is = absurd cc
found-contained {A} test (y ∷ ys) x is = by (test y) is (found-contained test ys x)
  where
    by : (b : Bool) → (if b then Some y else find test ys) ≡ Some x → (find test ys ≡ Some x → Contains ys x) → Contains (y ∷ ys) x
    by true is rest = let same : y ≡ x = cc in subst (λ (z : A). Contains (y ∷ ys) z) same (contains_first y ys)
    by false is rest = contains_later y ys x (rest is)
