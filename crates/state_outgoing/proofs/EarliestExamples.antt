-- The least of numbers that pass.
use Rattle.std.specs.Prelude.{◌≡◌, ℕ, Bool, [], ◌∷◌, Some, None, nat_lt, refl}
use Rattle.state_outgoing.specs.Earliest.{lesser, least}

-- ---- the smaller of two

neither : lesser None None ≡ None
neither = refl

one-alone : lesser (Some 4) None ≡ Some 4
one-alone = refl

other-alone : lesser None (Some 4) ≡ Some 4
other-alone = refl

first-smaller : lesser (Some 4) (Some 7) ≡ Some 4
first-smaller = refl

second-smaller : lesser (Some 7) (Some 4) ≡ Some 4
second-smaller = refl

-- ---- of a list

abbrev above_ten : ℕ → Bool
above_ten n = nat_lt 10 n

of-none : least above_ten [] ≡ None
of-none = refl

none-passes : least above_ten (3 ∷ 10 ∷ []) ≡ None
none-passes = refl

-- the smaller ones don't pass, and the order of the others is none
behind-others : least above_ten (3 ∷ 30 ∷ 12 ∷ 20 ∷ 9 ∷ []) ≡ Some 12
behind-others = refl

passes-first : least above_ten (12 ∷ 30 ∷ []) ≡ Some 12
passes-first = refl

twice : least above_ten (12 ∷ 12 ∷ []) ≡ Some 12
twice = refl
