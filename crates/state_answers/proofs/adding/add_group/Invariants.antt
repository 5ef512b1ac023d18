use Rattle.std.proofs.Common.{◌≡◌, ℕ, ◌||◌, nat_eq, take}
use Rattle.std.specs.List.{list_any}
use Rattle.number_groups.specs.Groups.{numbers}
use Rattle.number_groups.specs.Ascending.{has}
use Rattle.state_answers.proofs.adding.add_group.Given as goal

abbrev pub invariant-loop-index : goal.invariant-loop-index
invariant-loop-index l = (n : ℕ) → has l.candidates n ≡ (has l.fn.candidates n || list_any (nat_eq n) (take l.index (numbers nat_eq l.groups l.key)))
