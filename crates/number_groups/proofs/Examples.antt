-- What groups with known numbers say.
use Rattle.std.proofs.Common.{◌≡◌, ℕ, ap, not, ◌&&◌, ◌||◌, ◌==◌, Bool, true, false, List, [], ◌∷◌, Some, None, nat_eq, bytes_eq, refl, if◌then◌else◌}
use Rattle.std.specs.Map.{lookup}
use Rattle.number_groups.specs.Numbers.{is_among, listed}
use Rattle.number_groups.specs.Ids.{same_id}
use Rattle.number_groups.specs.Groups as groups
use Rattle.number_groups.specs.OctetGroups as octets
use Rattle.number_groups.specs.declared.group.Group.TheVariants.{One}
use Rattle.number_groups.specs.declared.groups.Groups.{Groups}
use Rattle.number_groups.specs.declared.octet_groups.OctetGroups.{OctetGroups}

-- ---- one group

among-one : is_among (40 ∷ 41 ∷ []) 41 ≡ true
among-one = refl

among-other : is_among (40 ∷ 41 ∷ []) 42 ≡ false
among-other = refl

among-none : is_among [] 0 ≡ false
among-none = refl

listed-none : listed None ≡ []
listed-none = refl

listed-alone : listed (Some (One 40)) ≡ 40 ∷ []
listed-alone = refl

-- ---- 40 and 41 under the key 7, and nothing under any other

module _ (table : Groups ℕ) (found : (key : ℕ) → listed (lookup (nat_eq key) table.entries.entries) ≡ (if key == 7 then 40 ∷ 41 ∷ [] else [])) where
  numbers-seven : groups.numbers nat_eq table 7 ≡ 40 ∷ 41 ∷ []
  numbers-seven = found 7

  numbers-eight : groups.numbers nat_eq table 8 ≡ []
  numbers-eight = found 8

  member-seven : groups.is_member nat_eq table 7 41 ≡ true
  member-seven = ap (λ xs. is_among xs 41) (found 7)

  member-absent : groups.is_member nat_eq table 7 42 ≡ false
  member-absent = ap (λ xs. is_among xs 42) (found 7)

  member-elsewhere : groups.is_member nat_eq table 8 41 ≡ false
  member-elsewhere = ap (λ xs. is_among xs 41) (found 8)

module _ (table : OctetGroups) (found : (key : List ℕ) → octets.numbers table key ≡ (if bytes_eq key (113 ∷ []) then 40 ∷ [] else [])) where
  member-octets : octets.is_member table (113 ∷ []) 40 ≡ true
  member-octets = ap (λ xs. is_among xs 40) (found (113 ∷ []))

  member-longer : octets.is_member table (113 ∷ 113 ∷ []) 40 ≡ false
  member-longer = ap (λ xs. is_among xs 40) (found (113 ∷ 113 ∷ []))

-- ---- an id is that of its session

id-same : same_id (record { session = 3; id = 1 }) (record { session = 3; id = 1 }) ≡ true
id-same = refl

id-elsewhere : same_id (record { session = 3; id = 1 }) (record { session = 4; id = 1 }) ≡ false
id-elsewhere = refl

id-other : same_id (record { session = 3; id = 1 }) (record { session = 3; id = 2 }) ≡ false
id-other = refl

-- ---- 42 joins them, or 41 leaves: what `Joined` and `Left` ask of each key and number

abbrev member_then : ℕ → ℕ → Bool
member_then at n = (at == 7) && ((n == 40) || (n == 41))

abbrev joins : ℕ → ℕ → Bool
joins at n = (7 == at) && (42 == n) || member_then at n

abbrev leaves : ℕ → ℕ → Bool
leaves at n = member_then at n && not ((7 == at) && (41 == n))

joins-own : joins 7 42 ≡ true
joins-own = refl

joins-others : joins 7 40 ≡ true
joins-others = refl

joins-elsewhere : joins 8 42 ≡ false
joins-elsewhere = refl

leaves-own : leaves 7 41 ≡ false
leaves-own = refl

leaves-others : leaves 7 40 ≡ true
leaves-others = refl
