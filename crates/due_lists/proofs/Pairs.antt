-- Pairs of numbers in their order.
use Rattle.std.proofs.Common.{◌≡◌, refl, sym, ap, ◌∙◌, ℕ, Bool, true, false, not, ◌&&◌, ◌||◌, ◌==◌, nat_lt, ltb-true, eqb-true, arith, Less, Equal, Greater}
use Rattle.std.specs.Prelude.{cond}
use Rattle.std.specs.Ordering.{nat_cmp, is_eq}
use Rattle.std.specs.Cmp.{tied_then}
use Rattle.due_lists.specs.CopyCandidates.{pair_cmp}

tied : (x y : ℕ) → is_eq (nat_cmp x y) ≡ (x == y)
tied x y = by (nat_lt x y) (x == y) refl refl
  where
    by : (less same : Bool) → nat_lt x y ≡ less → (x == y) ≡ same → is_eq (cond less Less (cond same Equal Greater)) ≡ same
    by false false below is = refl
    by false true below is = refl
    by true false below is = refl
    by true true below is = let lt = ltb-true x y below in let eq = eqb-true x y is in absurd (omega (arith, lt, eq))

pub tied-pairs : (a b c d : ℕ) → is_eq (pair_cmp (a, b) (c, d)) ≡ (a == c && (b == d))
tied-pairs a b c d =
    sym (tied_then (nat_cmp a c) (nat_cmp b d)) ∙ (ap (λ t. t && is_eq (nat_cmp b d)) (tied a c) ∙ ap (λ t. a == c && t) (tied b d))

pub or-there : (t there : Bool) → cond t true there ≡ there || t
or-there true true = refl
or-there true false = refl
or-there false true = refl
or-there false false = refl

pub and-elsewhere : (t there : Bool) → cond t false there ≡ there && not t
and-elsewhere true true = refl
and-elsewhere true false = refl
and-elsewhere false true = refl
and-elsewhere false false = refl
