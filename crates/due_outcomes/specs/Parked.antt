-- Deliveries to clients that are parked under what they carry.
use Rattle.std.specs.Prelude.{◌≡◌, ℕ, Bool, true, ◌&&◌, ◌||◌, nat_eq}
use Rattle.number_groups.specs.Ascending.{has}
use Rattle.number_groups.specs.Groups.{is_member}
use Rattle.number_groups.specs.declared.ascending.Ascending.{Ascending}
use Rattle.due_outcomes.specs.declared.parked.Parked.{Parked}

-- the number m is parked under the delivery from a client of the number n
abbrev pub is_parked : Parked → ℕ → ℕ → Bool
is_parked parked n m = has parked.numbers m && is_member nat_eq parked.carrying n m

-- what was parked still is, or is a candidate
abbrev pub IsLeft : Ascending → Parked → Parked → Type 0
IsLeft candidates earlier later = (n m : ℕ) → is_parked earlier n m ≡ true → has candidates m || is_parked later n m ≡ true
