-- What a list of candidates has.
use Rattle.std.specs.Prelude.{ℕ, Option}
use Rattle.std.specs.BTreeMap.{btree_map_len, get}
use Rattle.std.specs.Ordering.{nat_cmp}
use Rattle.due_lists.specs.declared.candidates.Candidates.{Candidates}

-- what stands under the number
abbrev pub value_of : {V : Type 0} → Candidates V → ℕ → Option V
value_of candidates n = get nat_cmp candidates.entries n

abbrev pub count_of : {V : Type 0} → Candidates V → ℕ
count_of candidates = btree_map_len candidates.entries
