-- Tests on values that may be missing.
use Rattle.std.specs.Prelude.{ℕ, List, Bool, true, false, Option, Some, None, bytes_eq, ◌==◌, if◌then◌else◌}

-- there is a value, and it passes
abbrev pub is_some_and : {A : Type 0} → Option A → (A → Bool) → Bool
is_some_and None test = false
is_some_and (Some x) test = test x

-- there is no value, or it passes
abbrev pub is_none_or : {A : Type 0} → Option A → (A → Bool) → Bool
is_none_or None test = true
is_none_or (Some x) test = test x

-- the value, or the other one where there is none
abbrev pub or_else : {A : Type 0} → Option A → Option A → Option A
or_else None other = other
or_else (Some x) other = Some x

-- the value, if it passes
abbrev pub where_passes : {A : Type 0} → (A → Bool) → Option A → Option A
where_passes test None = None
where_passes test (Some x) = if test x then Some x else None

-- it is there, and is this number
abbrev pub is_number : Option ℕ → ℕ → Bool
is_number value n = is_some_and value (λ m. m == n)

-- both are the same octets, or neither is there
abbrev pub are_same_octets : Option (List ℕ) → Option (List ℕ) → Bool
are_same_octets None None = true
are_same_octets (Some a) (Some b) = bytes_eq a b
are_same_octets _ _ = false
