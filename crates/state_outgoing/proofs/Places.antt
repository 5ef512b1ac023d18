-- One of so many places passes.
use Rattle.std.proofs.Common.{◌≡◌, refl, ap, ◌∙◌, ◌+◌, ◌<◌, ℕ, zero, suc, Bool, true, false, ◌||◌, nat_lt, subst, arith, ltb-true}
use Rattle.std.proofs.lemmas.Bool.{ltb-false}
use Rattle.state_outgoing.specs.IdRanges.{some_place}

or_assoc : (a b c : Bool) → (a || b) || c ≡ a || (b || c)
or_assoc true b c = refl
or_assoc false b c = refl

pub or_last : (a b : Bool) → b ≡ true → a || b ≡ true
or_last true b is = refl
or_last false b is = is

-- none does before the first is looked at
pub no-place : (passes : ℕ → Bool) (first : Bool) → first ≡ first || some_place passes 0
unfolding some_place
no-place passes true = refl
no-place passes false = refl

next-place : (n : ℕ) → suc n ≡ n + 1
next-place n = omega arith

-- and then one more
pub one-place-more : (passes : ℕ → Bool) (places : ℕ) (first now next : Bool) → now ≡ first || some_place passes places → next ≡ now || passes places → next ≡ first || some_place passes (places + 1)
unfolding some_place
one-place-more passes places first now next was added =
    added ∙ (ap (λ b. b || passes places) was ∙ (or_assoc first (some_place passes places) (passes places) ∙ ap (λ m. first || some_place passes m) (next-place places)))

-- what passes at one of them passes at some
pub at-some : (passes : ℕ → Bool) (place places : ℕ) → place < places → passes place ≡ true → some_place passes places ≡ true
unfolding some_place
at-some passes place zero before is = absurd (omega (arith, before))
at-some passes place (suc places) before is = by (nat_lt place places) refl (λ earlier. at-some passes place places earlier is)
  where
    by : (b : Bool) → nat_lt place places ≡ b → (place < places → some_place passes places ≡ true) → some_place passes places || passes places ≡ true
    by true earlier rest = ap (λ b. b || passes places) (rest (ltb-true place places earlier))
    by false not_earlier rest =
        let ge = ltb-false place places not_earlier in
        let same : place ≡ places = omega (arith, before, ge) in
        or_last (some_place passes places) (passes places) (subst (λ p. passes p ≡ true) same is)
