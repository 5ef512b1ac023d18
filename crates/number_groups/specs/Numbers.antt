-- The numbers of one group.
use Rattle.std.specs.Prelude.{ℕ, Bool, List, [], ◌∷◌, Option, Some, None, nat_eq}
use Rattle.std.specs.List.{list_any}
use Rattle.indexmap.specs.IndexMap.{keys}
use Rattle.number_groups.specs.declared.group.Group.{Group}
use Rattle.number_groups.specs.declared.group.Group.TheVariants.{One, Many}

-- in their order
abbrev pub members : Group → List ℕ
members (One n) = n ∷ []
members (Many group) = keys group

-- a group that is not there has none
abbrev pub listed : Option Group → List ℕ
listed None = []
listed (Some group) = members group

abbrev pub is_among : List ℕ → ℕ → Bool
is_among numbers n = list_any (nat_eq n) numbers
