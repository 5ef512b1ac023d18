-- Numbers of 32 bits.
use Rattle.std.specs.Prelude.{ℕ, ◌-◌, ◌^◌, min}

-- a number of 32 bits, which stops at the largest
abbrev pub most : ℕ → ℕ
most n = min n (2 ^ 32 - 1)
