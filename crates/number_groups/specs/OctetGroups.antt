-- What the groups under keys of octets stand for.
use Rattle.std.specs.Prelude.{◌≡◌, ℕ, Bool, ◌&&◌, ◌||◌, not, ◌==◌, List, is_some, bytes_eq}
use Rattle.indexmap.specs.IndexMap.{get_by}
use Rattle.number_groups.specs.Numbers.{is_among, listed}
use Rattle.number_groups.specs.declared.octet_groups.OctetGroups.{OctetGroups}

-- the numbers of a key
abbrev pub numbers : OctetGroups → List ℕ → List ℕ
numbers table key = listed (get_by (λ kept. bytes_eq key kept.items) table.entries)

abbrev pub is_member : OctetGroups → List ℕ → ℕ → Bool
is_member table key n = is_among (numbers table key) n

-- something is kept under the key
abbrev pub is_kept : OctetGroups → List ℕ → Bool
is_kept table key = is_some (get_by (λ kept. bytes_eq key kept.items) table.entries)

-- two tables say the same
abbrev pub AreSame : OctetGroups → OctetGroups → Type 0
AreSame earlier later = (key : List ℕ) → numbers later key ≡ numbers earlier key

-- the number has come into the group of the key
abbrev pub Joined : List ℕ → ℕ → OctetGroups → OctetGroups → Type 0
Joined key number earlier later = (at : List ℕ) (n : ℕ) → is_member later at n ≡ (bytes_eq key at && (number == n) || is_member earlier at n)

-- it has left it
abbrev pub Left : List ℕ → ℕ → OctetGroups → OctetGroups → Type 0
Left key number earlier later = (at : List ℕ) (n : ℕ) → is_member later at n ≡ (is_member earlier at n && not (bytes_eq key at && (number == n)))
