-- The keys of a map whose values say nothing.
use Rattle.std.proofs.Common.{◌≡◌, sym, ap, ◌∙◌, refl, ℕ, Bool, true, false, cond, List, Some, None, is_some, nat_eq}
use Rattle.std.specs.Map.{keys_of, lookup}
use Rattle.std.proofs.lemmas.Map.Made.{is_some-lookup}
use Rattle.number_groups.specs.Numbers.{is_among}

module _ {X : Type 0} (old new : List (ℕ × X)) (number : ℕ) where
  -- one more key
  pub put-in : (x : X) → ((n : ℕ) → lookup (nat_eq n) new ≡ cond (nat_eq number n) (Some x) (lookup (nat_eq n) old))
      → (n : ℕ) → is_among (keys_of new) n ≡ cond (nat_eq number n) true (is_among (keys_of old) n)
  put-in x moved n = sym (is_some-lookup (nat_eq n) new) ∙ (ap is_some (moved n) ∙ by (nat_eq number n))
    where
      by : (b : Bool) → is_some (cond b (Some x) (lookup (nat_eq n) old)) ≡ cond b true (is_among (keys_of old) n)
      by true = refl
      by false = is_some-lookup (nat_eq n) old

  -- one less
  pub taken-out : ((n : ℕ) → lookup (nat_eq n) new ≡ cond (nat_eq number n) None (lookup (nat_eq n) old))
      → (n : ℕ) → is_among (keys_of new) n ≡ cond (nat_eq number n) false (is_among (keys_of old) n)
  taken-out moved n = sym (is_some-lookup (nat_eq n) new) ∙ (ap is_some (moved n) ∙ by (nat_eq number n))
    where
      by : (b : Bool) → is_some (cond b None (lookup (nat_eq n) old)) ≡ cond b false (is_among (keys_of old) n)
      by true = refl
      by false = is_some-lookup (nat_eq n) old
