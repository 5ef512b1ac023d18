-- What a port of a router gives to a connection.
use Rattle.std.specs.Prelude.{◌≡◌, ℕ, ◌-◌, ◌≤◌, ◌<◌, ◌^◌, List, [], ◌∷◌, ◌++◌, Option, Some, None}

-- a port gave one frame more, which stands behind what was put
pub record GivesFrame (frames frames_then : List (List ℕ)) (out out_then : List ℕ) : Type 0 where
  pub frame : List ℕ
  pub given : frames_then ≡ frames ++ frame ∷ []
  pub put : out_then ≡ out ++ frame

-- what a port did that was asked for its next frame from a record's number on
abbrev pub GivesNext : List (List ℕ) → List (List ℕ) → List ℕ → List ℕ → ℕ → Option ℕ → Type 0
GivesNext frames frames_then out out_then from None = (frames_then ≡ frames) × (out_then ≡ out)
GivesNext frames frames_then out out_then from (Some number) = GivesFrame frames frames_then out out_then × (from ≤ number) × (number < 2 ^ 64 - 1)
