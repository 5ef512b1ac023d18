-- What is left while links leave, one after the other.
use Rattle.std.proofs.Common.{◌≡◌, refl, sym, ap, ◌∙◌, ℕ, ◌+◌, ◌<◌, Bool, true, false, not, ◌&&◌, ◌||◌, List, [], ◌∷◌, length, map, take, get_or}
use Rattle.std.specs.List.{list_any}
use Rattle.std.proofs.lemmas.List.Folds.{list_any_more}

any-map : {A B : Type 0} (f : A → B) (p : B → Bool) (xs : List A) → list_any (λ x. p (f x)) xs ≡ list_any p (map f xs)
any-map f p [] = refl
any-map f p (x ∷ xs) = ap (λ b. p (f x) || b) (any-map f p xs)

both-left : (first some one : Bool) → (first && not some) && not one ≡ first && not (some || one)
both-left false some one = refl
both-left true true one = refl
both-left true false one = refl

pub one-leaves : {A B : Type 0} (f : A → B) (p : B → Bool) (xs : List A) (i : ℕ) (d : A) (first now next : Bool) → i < length xs
    → now ≡ first && not (list_any p (map f (take i xs))) → next ≡ now && not (p (f (get_or xs i d))) → next ≡ first && not (list_any p (map f (take (i + 1) xs)))
one-leaves f p xs i d first now next lt was left =
    let one = p (f (get_or xs i d)) in
    let some = list_any p (map f (take i xs)) in
    let more : list_any p (map f (take (i + 1) xs)) ≡ some || one = sym (any-map f p (take (i + 1) xs)) ∙ (list_any_more (λ x. p (f x)) xs i d lt ∙ ap (λ b. b || one) (any-map f p (take i xs))) in
    left ∙ (ap (λ b. b && not one) was ∙ (both-left first some one ∙ ap (λ b. first && not b) (sym more)))
