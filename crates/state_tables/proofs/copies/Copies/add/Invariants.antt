use Rattle.std.proofs.Common.{◌≡◌, ◌&&◌, ◌||◌, ◌==◌, ℕ, take}
use Rattle.state_tables.specs.Copies.{AreCounted, has_room, stands}
use Rattle.state_tables.proofs.copies.Copies.add.Given as goal

abbrev pub invariant-loop-receiver : goal.invariant-loop-receiver
invariant-loop-receiver l = (counts : ℕ → ℕ) → AreCounted l.fn.self counts → (link n : ℕ) →
    stands l.self link n ≡ (n == l.number && has_room (take l.receiver-index l.receivers) link (counts link) || stands l.fn.self link n)
