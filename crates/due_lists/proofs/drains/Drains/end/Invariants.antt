use Rattle.std.proofs.Common.{◌≡◌, ℕ, List, true, false, take}
use Rattle.state_tables.specs.EndedLinks.{views}
use Rattle.state_tables.specs.ConsumerLinks.{has_link}
use Rattle.due_lists.specs.Drains.{stands, waits}
use Rattle.due_lists.proofs.drains.Drains.end.Given as goal

abbrev pub invariant-loop-link : goal.invariant-loop-link
invariant-loop-link l =
    ((address : List ℕ) (n : ℕ) → has_link (views (take l.link-index l.ended)) n ≡ false → stands l.fn.self address n ≡ true → stands l.self address n ≡ true)
    × ((n : ℕ) → waits l.self n ≡ waits l.fn.self n)
