-- The first of some numbers that passes a test passes; where there is none, none of them does.
use Rattle.std.proofs.Common.{◌≡◌, refl, ap, ◌∙◌, ℕ, Bool, true, false, ◌||◌, List, [], ◌∷◌, Some, None, IfSome, find, if◌then◌else◌}
use Rattle.std.specs.List.{list_any}
use Rattle.std.specs.Ordering.{nat_cmp}
use Rattle.std.specs.BTreeMap.{is_at}
use Rattle.std.proofs.lemmas.Map.Views.{tells_apart}
use Rattle.std.proofs.lemmas.Map.Lookups.{exact_unsigned}

module _ (test : ℕ → Bool) where
  pub first-passes : (xs : List ℕ) → IfSome (find test xs) (λ n. test n ≡ true)
  first-passes [] = tt
  first-passes (x ∷ xs) = by (test x) refl (first-passes xs)
    where
      by : (b : Bool) → test x ≡ b → IfSome (find test xs) (λ n. test n ≡ true) → IfSome (if b then Some x else find test xs) (λ n. test n ≡ true)
      by true is later = is
      by false is later = later

  pub none-passes : (xs : List ℕ) → find test xs ≡ None → (n : ℕ) → list_any (is_at (nat_cmp n)) xs ≡ true → test n ≡ false
  none-passes [] none n there = absurd cc
  none-passes (x ∷ xs) none n there = by (test x) refl (is_at (nat_cmp n) x) refl none there (none-passes xs)
    where
      by : (b : Bool) → test x ≡ b → (c : Bool) → is_at (nat_cmp n) x ≡ c → (if b then Some x else find test xs) ≡ None → c || list_any (is_at (nat_cmp n)) xs ≡ true
          → (find test xs ≡ None → (m : ℕ) → list_any (is_at (nat_cmp m)) xs ≡ true → test m ≡ false) → test n ≡ false
      by true is c at none there later = absurd cc
      by false is true at none there later = ap test (tells_apart exact_unsigned n x at) ∙ is
      by false is false at none there later = later none n there
