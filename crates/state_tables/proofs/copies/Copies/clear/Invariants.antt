use Rattle.std.proofs.Common.{◌≡◌, ◌==◌, ℕ, false, length, nat_eq}
use Rattle.number_groups.specs.Groups.{numbers}
use Rattle.state_tables.specs.Copies.{stands}
use Rattle.state_tables.proofs.copies.Copies.clear.Given as goal

abbrev pub invariant-loop-left : goal.invariant-loop-left
invariant-loop-left l = (l.left ≡ length (numbers nat_eq l.self.unsent l.link)) × ((at n : ℕ) → (l.link == at) ≡ false → stands l.self at n ≡ stands l.fn.self at n)

abbrev pub decreases-loop-left : goal.decreases-loop-left
decreases-loop-left l = l.left
