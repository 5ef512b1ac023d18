-- Serial numbers of 32 bits, which wrap (RFC 1982; part 2 of the standard, section 2.8.10).
use Rattle.std.specs.Prelude.{ℕ, ◌+◌, ◌-◌, ◌%◌, ◌^◌}

-- the number that stands n places after a
abbrev pub serial_add : ℕ → ℕ → ℕ
serial_add a n = (a + n) % 2 ^ 32

-- how many places a stands after b, once round
abbrev pub serial_sub : ℕ → ℕ → ℕ
serial_sub a b = ((a + 2 ^ 32) - b) % 2 ^ 32
