use Rattle.std.proofs.Common.{◌≡◌, ℕ, ◌||◌, nat_eq, take}
use Rattle.std.specs.List.{list_any}
use Rattle.number_groups.specs.Ascending.{has}
use Rattle.state_answers.proofs.adding.add_all.Given as goal

abbrev pub invariant-loop-number : goal.invariant-loop-number
invariant-loop-number l = (n : ℕ) → has l.candidates n ≡ (has l.fn.candidates n || list_any (nat_eq n) (take l.number-index l.numbers))
