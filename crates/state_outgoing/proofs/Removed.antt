-- What is left where the entries go of a first number and of others in reverse.
use Rattle.std.proofs.Common.{◌≡◌, refl, sym, ap, ◌∙◌, ℕ, Bool, true, false, ◌||◌, List, ◌∷◌, reverse, Option, None, nat_eq, ◌==◌, if◌then◌else◌}
use Rattle.std.proofs.lemmas.List.Sorted.{IsPermutation-reverse, list_any-IsPermutation}
use Rattle.number_groups.specs.Numbers.{is_among}
use Rattle.state_tables.proofs.GroupLists.{swapped}

pub with-first : {A : Type 0} (first : Option A) (m : ℕ) (xs : List ℕ) (n : ℕ) (now next : Option A) → now ≡ (if m == n then None else first) → next ≡ (if is_among xs n then None else now)
    → next ≡ (if is_among (m ∷ reverse xs) n then None else first)
with-first first m xs n now next was moved =
    moved
    ∙ (ap (λ o. if is_among xs n then None else o) was
    ∙ (both (m == n) (is_among xs n)
    ∙ (ap (λ b. if b || is_among xs n then None else first) (sym (swapped n m))
    ∙ ap (λ b. if nat_eq n m || b then None else first) (list_any-IsPermutation (nat_eq n) xs (reverse xs) (IsPermutation-reverse xs)))))
  where
    both : (a b : Bool) → (if b then None else if a then None else first) ≡ (if a || b then None else first)
    both true true = refl
    both true false = refl
    both false true = refl
    both false false = refl
