use Rattle.std.proofs.Common.{◌≡◌, ℕ, Some, true, nat_eq, take}
use Rattle.std.specs.List.{list_any}
use Rattle.number_groups.specs.Groups.{numbers}
use Rattle.due_lists.specs.UnsentNumbers.{IsKept, Waits, copy_on}
use Rattle.due_lists.proofs.unsent_numbers.UnsentNumbers.touch_session.Given as goal

abbrev pub invariant-loop-index : goal.invariant-loop-index
invariant-loop-index l =
    ((link c n : ℕ) → list_any (nat_eq link) (take l.index (numbers nat_eq l.fn.self.of_session l.session)) ≡ true → copy_on l.self link c ≡ Some n → Waits l.self link)
    × (l.self.of_session ≡ l.fn.self.of_session)
    × IsKept l.fn.self l.self
