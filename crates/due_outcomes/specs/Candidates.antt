-- The numbers among which is all that is due.
use Rattle.std.specs.Prelude.{◌≡◌, ℕ, true}
use Rattle.number_groups.specs.Ascending.{has}
use Rattle.number_groups.specs.declared.ascending.Ascending.{Ascending}

-- all that were candidates still are
abbrev pub Grows : Ascending → Ascending → Type 0
Grows earlier later = (n : ℕ) → has earlier n ≡ true → has later n ≡ true
