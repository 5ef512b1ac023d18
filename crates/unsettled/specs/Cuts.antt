-- A payload that is kept as the cuts in which it came.
use Rattle.std.specs.Prelude.{ℕ, ◌<◌, List, length, All}
use Rattle.std.specs.List.{concat}

-- the octets of the cuts, joined in their order
abbrev pub octets_of : List (List ℕ) → List ℕ
octets_of cuts = concat cuts

-- no cut is empty
abbrev pub AreFilled : List (List ℕ) → Type 0
AreFilled cuts = All (λ cut. 0 < length cut) cuts
