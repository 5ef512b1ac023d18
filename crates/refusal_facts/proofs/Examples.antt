-- What the definitions say, at values: one that holds, and one that does not.
use Rattle.std.proofs.Common.{◌≡◌, ℕ, true, false, List, [], ◌∷◌, refl, arith}
use Rattle.refusal_facts.specs.PayloadFacts.{AreAlikeBelow, IsDifferenceFrom}
use Rattle.refusal_facts.specs.declared.payload.Difference.TheVariants.{Octet, TooMany, Missing, Nothing}

-- behind two octets the payload goes on with 7 and 8
abbrev due : List ℕ
due = 7 ∷ 8 ∷ []

one-alike : (rest other : List ℕ) → AreAlikeBelow 1 (7 ∷ rest) (7 ∷ other)
one-alike rest other k lt = let zero : k ≡ 0 = omega arith in rw zero refl

none-alike : (one other : List ℕ) → AreAlikeBelow 0 one other
none-alike one other k lt = absurd (omega (arith, lt))

octet-differs : IsDifferenceFrom 2 due (7 ∷ 9 ∷ []) false (Octet 3 8 9)
octet-differs = (omega arith, refl, refl, (λ same. cc), one-alike (8 ∷ []) (9 ∷ []))

no-octet-before : IsDifferenceFrom 2 due (7 ∷ 9 ∷ []) false (Octet 1 8 9) → ⊥
no-octet-before d = absurd (omega (arith, d.0))

one-missing : IsDifferenceFrom 2 due (7 ∷ []) false (Missing 1)
one-missing = (refl, omega arith, refl, one-alike (8 ∷ []) [])

none-missing-where-more-follows : IsDifferenceFrom 2 due (7 ∷ []) true (Missing 1) → ⊥
none-missing-where-more-follows d = let clash : true ≡ false = d.2 in cc

two-missing : IsDifferenceFrom 2 due (7 ∷ []) false (Missing 2) → ⊥
two-missing d = absurd (omega (arith, d.0))

one-too-many : IsDifferenceFrom 2 (7 ∷ []) (7 ∷ 8 ∷ []) false (TooMany 1)
one-too-many = (refl, omega arith, one-alike [] (8 ∷ []))

nothing-too-many : IsDifferenceFrom 2 (7 ∷ []) (7 ∷ []) false (TooMany 0) → ⊥
nothing-too-many d = absurd (omega (arith, d.1))

alike-so-far : IsDifferenceFrom 2 due (7 ∷ []) true Nothing
alike-so-far = (omega arith, one-alike (8 ∷ []) [], λ e. cc)

not-all : IsDifferenceFrom 2 due (7 ∷ []) false Nothing → ⊥
not-all d = let e : 1 ≡ 2 = d.2 refl in absurd (omega (arith, e))
