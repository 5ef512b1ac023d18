-- Which deliveries a table by link has.
use Rattle.std.specs.Prelude.{ℕ, Option, Some, None, nat_eq}
use Rattle.std.specs.Ordering.{nat_cmp}
use Rattle.std.specs.BTreeMap as sorted
use Rattle.std.specs.BTreeMap.{BTreeMap}
use Rattle.indexmap.specs.IndexMap.{get}
use Rattle.due_lists.specs.declared.by_link.ByLink.{ByLink}

abbrev pub copy_in : Option (BTreeMap ℕ ℕ) → ℕ → Option ℕ
copy_in None completion = None
copy_in (Some copies) completion = sorted.get nat_cmp copies completion

abbrev pub count_in : Option (BTreeMap ℕ ℕ) → ℕ
count_in None = 0
count_in (Some copies) = sorted.btree_map_len copies

-- the delivery of the link that this record completed
abbrev pub copy_at : ByLink → ℕ → ℕ → Option ℕ
copy_at all link completion = copy_in (get nat_eq all.entries link) completion

-- how many the link has
abbrev pub count_of : ByLink → ℕ → ℕ
count_of all link = count_in (get nat_eq all.entries link)
