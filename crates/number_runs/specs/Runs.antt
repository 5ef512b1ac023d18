-- Runs of numbers with one value (own rules).
use Rattle.std.specs.Prelude.{◌≡◌, ◌≢◌, ◌⊎◌, ℕ, ◌+◌, ◌-◌, ◌<◌, ◌≤◌, Bool, ◌&&◌, List, [], ◌∷◌, Option, Some, None, IsSomeAnd, if◌then◌else◌, nat_le, slice_get, ◌==◌}
use Rattle.std.specs.List.{AllByRecursion}
use Rattle.number_runs.specs.declared.run.Run.{Run}

module _ {V : Type 0} where
  -- the number is one of the run
  abbrev pub encloses : Run V → ℕ → Bool
  encloses run n = nat_le run.first n && nat_le n run.last

  -- the value of the run that encloses the number
  abbrev pub value_in : List (Run V) → ℕ → Option V
  value_in [] n = None
  value_in (run ∷ runs) n = if encloses run n then Some run.value else value_in runs n

  -- none ends before it begins, and each begins behind the end of the one before it; the first with this number or later
  abbrev pub AreApart : ℕ → List (Run V) → Type 0
  AreApart from [] = Unit {0}
  AreApart from (run ∷ runs) = (from ≤ run.first) × (run.first ≤ run.last) × AreApart (run.last + 1) runs

  -- each ends before the number; or none does; or each begins behind it
  abbrev pub EndBefore : ℕ → List (Run V) → Type 0
  EndBefore number runs = AllByRecursion (λ run. run.last < number) runs

  abbrev pub EndFrom : ℕ → List (Run V) → Type 0
  EndFrom number runs = AllByRecursion (λ run. number ≤ run.last) runs

  abbrev pub BeginBehind : ℕ → List (Run V) → Type 0
  BeginBehind number runs = AllByRecursion (λ run. number < run.first) runs

  -- the run has the value, and the number is the one behind its last
  abbrev pub EndsBeside : ℕ → V → Run V → Type 0
  EndsBeside number value run = (run.last + 1 ≡ number) × (run.value ≡ value)

  -- the run has the value, and the number is the one before its first
  abbrev pub BeginsBeside : ℕ → V → Run V → Type 0
  BeginsBeside number value run = (number + 1 ≡ run.first) × (run.value ≡ value)

  -- the run before the place ends beside the number
  abbrev pub HasBefore : ℕ → V → ℕ → List (Run V) → Type 0
  HasBefore number value place runs = (0 < place) × IsSomeAnd (slice_get runs (place - 1)) (EndsBeside number value)

  -- the run at the place begins beside it
  abbrev pub HasBehind : ℕ → V → ℕ → List (Run V) → Type 0
  HasBehind number value place runs = IsSomeAnd (slice_get runs place) (BeginsBeside number value)

  -- the number has the value, and the others have what they had
  abbrev pub Puts : ℕ → V → List (Run V) → List (Run V) → Type 0
  Puts number value old new = (n : ℕ) → value_in new n ≡ (if number == n then Some value else value_in old n)

  -- neither number beside this one has the value
  abbrev pub NeedsRun : ℕ → V → List (Run V) → Type 0
  NeedsRun number value runs = (n : ℕ) → (n + 1 ≡ number) ⊎ (number + 1 ≡ n) → value_in runs n ≢ Some value
