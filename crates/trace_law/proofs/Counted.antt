-- Counts that a scan keeps.
use Rattle.std.proofs.Common.{◌≡◌, ℕ, suc, ◌+◌, ◌%◌, ◌^◌, arith}
use Rattle.flow_counts.specs.Serial.{serial_add}

-- one place further at the start is one more place to go
pub serial_step : (a b n : ℕ) → b ≡ (a + 1) % 2 ^ 32 → serial_add b n ≡ serial_add a (suc n)
serial_step a b n is = grind arith
