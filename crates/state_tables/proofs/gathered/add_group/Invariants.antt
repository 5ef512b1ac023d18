use Rattle.std.proofs.Common.{◌≡◌, ℕ, ◌||◌, nat_eq, take}
use Rattle.std.specs.List.{list_any}
use Rattle.number_groups.specs.Numbers.{is_among}
use Rattle.number_groups.specs.Groups.{numbers}
use Rattle.state_tables.proofs.gathered.add_group.Given as goal

abbrev pub invariant-loop-index : goal.invariant-loop-index
invariant-loop-index l = (n : ℕ) → is_among l.gathered n ≡ (is_among l.fn.gathered n || list_any (nat_eq n) (take l.index (numbers nat_eq l.groups l.key)))
