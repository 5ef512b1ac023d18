-- The earliest of records that pass a test, by their numbers.
use Rattle.std.specs.Prelude.{ℕ, min, Bool, List, [], ◌∷◌, Option, Some, None}
use Rattle.trace_events.specs.Words.{where_passes}

-- the smaller of two numbers, where both are there
abbrev pub lesser : Option ℕ → Option ℕ → Option ℕ
lesser None other = other
lesser (Some m) None = Some m
lesser (Some m) (Some n) = Some (min m n)

-- the least number that passes
abbrev pub least : (ℕ → Bool) → List ℕ → Option ℕ
least passes [] = None
least passes (n ∷ ns) = lesser (where_passes passes (Some n)) (least passes ns)
