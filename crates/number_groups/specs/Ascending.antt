-- Numbers, the lowest first.
use Rattle.std.specs.Prelude.{ℕ, Bool, ◌==◌}
use Rattle.std.specs.BTreeSet.{btree_set_len, contains}
use Rattle.std.specs.Ordering.{nat_cmp}
use Rattle.number_groups.specs.declared.ascending.Ascent.{Ascent}
use Rattle.number_groups.specs.declared.ascending.Ascent.TheVariants.{One, Many}
use Rattle.number_groups.specs.declared.ascending.Ascending.{Ascending}

abbrev pub is_in : Ascent → ℕ → Bool
is_in (One first) n = first == n
is_in (Many numbers) n = contains nat_cmp numbers n

abbrev pub length_of : Ascent → ℕ
length_of (One first) = 1
length_of (Many numbers) = btree_set_len numbers

-- the number is one of them
abbrev pub has : Ascending → ℕ → Bool
has all n = is_in all.numbers n

abbrev pub count_of : Ascending → ℕ
count_of all = length_of all.numbers
