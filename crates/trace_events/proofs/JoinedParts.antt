-- Octets joined up to a bound.
use Rattle.std.proofs.Common.{◌≡◌, refl, sym, ap, ◌∙◌, ℕ, zero, suc, ◌+◌, ◌-◌, ◌≤◌, ◌<◌, ◌⊎◌, inl, inr, List, [], ◌∷◌, ◌++◌, length, take, Bool, true, false, arith}
use Rattle.std.specs.Prelude.{nat_le}
use Rattle.std.proofs.lemmas.List.{length-take, take-append-le}
use Rattle.std.proofs.lemmas.Bool.Decides.{leb_tells}
use Rattle.std.proofs.Math.Seq.{take-append-add}

pub append-nothing : (xs : List ℕ) → xs ++ [] ≡ xs
append-nothing [] = refl
append-nothing (x ∷ xs) = ap (λ ys. x ∷ ys) (append-nothing xs)

pub take-of-none : (n : ℕ) → take {A = ℕ} n [] ≡ []
take-of-none zero = refl
take-of-none (suc n) = refl

pub take-all : (n : ℕ) (xs : List ℕ) → length xs ≤ n → take n xs ≡ xs
take-all n [] h = take-of-none n
take-all zero (x ∷ xs) h = absurd (omega arith)
take-all (suc n) (x ∷ xs) h = ap (λ ys. x ∷ ys) (take-all n xs (omega arith))

-- what fits behind what is there fills it up to the bound
pub fills_up : (most : ℕ) (xs ys : List ℕ) → take most xs ++ take (most - length (take most xs)) ys ≡ take most (xs ++ ys)
fills_up most xs ys = by (leb_tells (length xs) most)
  where
    by : ((nat_le (length xs) most ≡ true) × (length xs ≤ most)) ⊎ ((nat_le (length xs) most ≡ false) × (most < length xs)) → take most xs ++ take (most - length (take most xs)) ys ≡ take most (xs ++ ys)
    by (inl h) =
        let fits : length xs ≤ most = h.1 in
        let all = take-all most xs fits in
        let room : length xs + (most - length xs) ≡ most = omega (arith, fits) in
        ap (λ zs. zs ++ take (most - length zs) ys) all
        ∙ (sym (take-append-add xs ys (most - length xs)) ∙ ap (λ n. take n (xs ++ ys)) room)
    by (inr h) =
        let long : most < length xs = h.1 in
        let size : length (take most xs) ≡ most = omega (arith, length-take most xs, long) in
        let none : most - length (take most xs) ≡ 0 = omega (arith, size) in
        ap (λ n. take most xs ++ take n ys) none
        ∙ (append-nothing (take most xs) ∙ sym (take-append-le most xs ys (omega (arith, long))))
