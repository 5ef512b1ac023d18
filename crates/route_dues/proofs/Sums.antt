-- Sums over a list, where no part grows.
use Rattle.std.proofs.Common.{◌≡◌, sym, ℕ, ◌+◌, ◌≤◌, ◌<◌, Bool, true, false, cond, not, ◌||◌, inl, inr, List, [], ◌∷◌, subst, arith}
use Rattle.std.specs.Prelude.{Contains}
use Rattle.std.specs.List.{sum_by}
use Rattle.std.proofs.lemmas.List.Sums.{sum_by-cons}
use Rattle.trace_events.proofs.WaitingQueue.{contains_none, contains_cases, contains_first, contains_later}

module _ {A : Type 0} (f g : A → ℕ) where
  pub sum-most : (xs : List A) → ((x : A) → Contains xs x → f x ≤ g x) → sum_by f xs ≤ sum_by g xs
  sum-most [] each = omega arith
  sum-most (x ∷ xs) each =
      joined (sum_by f (x ∷ xs)) (sum_by g (x ∷ xs)) (f x) (g x) (sum_by f xs) (sum_by g xs) (sum_by-cons f x xs) (sum_by-cons g x xs)
      (each x (contains_first x xs)) (sum-most xs (λ y there. each y (contains_later x xs y there)))
    where
      joined : (a b p q m n : ℕ) → a ≡ p + m → b ≡ q + n → p ≤ q → m ≤ n → a ≤ b
      joined a b p q m n is was first rest = omega (arith, is, was, first, rest)

  -- and one falls
  pub sum-less : (xs : List A) → ((x : A) → Contains xs x → f x ≤ g x) → (y : A) → Contains xs y → f y < g y → sum_by f xs < sum_by g xs
  sum-less [] each y there less = contains_none y there
  sum-less (x ∷ xs) each y there less =
      elim (contains_cases x xs y there) [
        | inl same ↦
            first_falls (sum_by f (x ∷ xs)) (sum_by g (x ∷ xs)) (f x) (g x) (sum_by f xs) (sum_by g xs) (sum_by-cons f x xs) (sum_by-cons g x xs)
            (subst (λ (z : A). f z < g z) (sym same) less) (sum-most xs (λ z in_rest. each z (contains_later x xs z in_rest)))
        | inr later ↦
            rest_falls (sum_by f (x ∷ xs)) (sum_by g (x ∷ xs)) (f x) (g x) (sum_by f xs) (sum_by g xs) (sum_by-cons f x xs) (sum_by-cons g x xs)
            (each x (contains_first x xs)) (sum-less xs (λ z in_rest. each z (contains_later x xs z in_rest)) y later less)
      ]
    where
      first_falls : (a b p q m n : ℕ) → a ≡ p + m → b ≡ q + n → p < q → m ≤ n → a < b
      first_falls a b p q m n is was first rest = omega (arith, is, was, first, rest)

      rest_falls : (a b p q m n : ℕ) → a ≡ p + m → b ≡ q + n → p ≤ q → m < n → a < b
      rest_falls a b p q m n is was first rest = omega (arith, is, was, first, rest)

-- ---- what is not there yet, as it is counted

-- behind an event it is there, or it was before
pub absent-most : (now was : Bool) → cond (not (now || was)) 1 0 ≤ cond (not was) 1 0
absent-most true true = omega arith
absent-most true false = omega arith
absent-most false was = by (cond (not was) 1 0)
  where
    by : (n : ℕ) → n ≤ n
    by n = omega arith

pub absent-less : (now was : Bool) → now ≡ true → was ≡ false → cond (not (now || was)) 1 0 < cond (not was) 1 0
absent-less true false is none = omega arith
absent-less true true is none = absurd cc
absent-less false was is none = absurd cc

pub no_more : (n : ℕ) → n ≤ n
no_more n = omega arith
