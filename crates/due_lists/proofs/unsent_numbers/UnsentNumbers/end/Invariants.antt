use Rattle.std.proofs.Common.{◌≡◌, ℕ, Some, true, false, take}
use Rattle.state_tables.specs.EndedLinks.{views}
use Rattle.state_tables.specs.ConsumerLinks.{has_link}
use Rattle.due_lists.specs.UnsentNumbers.{copy_on, stands, waits}
use Rattle.due_lists.proofs.unsent_numbers.UnsentNumbers.end.Given as goal

abbrev pub invariant-loop-link : goal.invariant-loop-link
invariant-loop-link l =
    ((link c : ℕ) → has_link (views (take l.link-index l.ended)) link ≡ false → copy_on l.self link c ≡ copy_on l.fn.self link c)
    × ((link c n : ℕ) → copy_on l.self link c ≡ Some n → copy_on l.fn.self link c ≡ Some n)
    × ((session n : ℕ) → has_link (views (take l.link-index l.ended)) n ≡ false → stands l.fn.self session n ≡ true → stands l.self session n ≡ true)
    × ((c n : ℕ) → waits l.self c n ≡ waits l.fn.self c n)
