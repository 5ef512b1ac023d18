-- A list, the newest first, as a loop over it meets its elements.
use Rattle.std.proofs.Common.{◌≡◌, sym, ap, ◌∙◌, refl, ℕ, ◌+◌, ◌<◌, ◌≤◌, List, [], ◌∷◌, ◌++◌, length, take, drop, map, get_or, reverse, add-one}
use Rattle.std.proofs.Math.Seq.{take-suc}
use Rattle.std.proofs.Math.ListN.{take-append-drop}
use Rattle.std.proofs.lemmas.List.{reverse-append, map-append, take_all}

-- one element further
pub reverse-next : {A : Type 0} (xs : List A) (i : ℕ) (d : A) → i < length xs → reverse (take (i + 1) xs) ≡ get_or xs i d ∷ reverse (take i xs)
reverse-next xs i d lt = rw (add-one, take-suc xs i d, reverse-append) refl

-- all of them
pub reverse-all : {A : Type 0} (xs : List A) (i : ℕ) → length xs ≤ i → reverse (take i xs) ≡ reverse xs
reverse-all xs i le = ap reverse (take_all i xs le)

pub reverse-split : {A : Type 0} (xs : List A) (i : ℕ) → reverse xs ≡ reverse (drop i xs) ++ reverse (take i xs)
reverse-split xs i = ap reverse (sym (take-append-drop i xs)) ∙ reverse-append (take i xs) (drop i xs)

-- what each element stands for, one element further
pub reverse-map-next : {A B : Type 0} (view : A → B) (xs : List A) (i : ℕ) (d : A) → i < length xs
    → reverse (map view (take (i + 1) xs)) ≡ view (get_or xs i d) ∷ reverse (map view (take i xs))
reverse-map-next view xs i d lt = rw (add-one, take-suc xs i d, map-append view (take i xs) (get_or xs i d ∷ []), reverse-append) refl
