-- Octets that are made where they are asked for.
use Rattle.std.specs.Prelude.{ℕ, List}

-- these octets
pub record Octets : Type 0 where
  pub items : List ℕ
