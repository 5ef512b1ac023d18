-- What a set of candidates has.
use Rattle.std.specs.Prelude.{ℕ, Bool}
use Rattle.std.specs.BTreeSet.{btree_set_len, contains}
use Rattle.std.specs.Ordering.{nat_cmp, ordering_then}
use Rattle.std.specs.declared.cmp.Ordering.{Ordering}
use Rattle.due_lists.specs.declared.copy_candidates.CopyCandidates.{CopyCandidates}

-- by the first number, and then by the second
abbrev pub pair_cmp : ℕ × ℕ → ℕ × ℕ → Ordering
pair_cmp x y = ordering_then (nat_cmp x.0 y.0) (nat_cmp x.1 y.1)

abbrev pub has : CopyCandidates → ℕ → ℕ → Bool
has all completion link = contains pair_cmp all.members (completion, link)

abbrev pub count_of : CopyCandidates → ℕ
count_of all = btree_set_len all.members
