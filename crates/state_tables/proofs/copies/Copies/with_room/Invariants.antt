use Rattle.std.proofs.Common.{◌≡◌, ◌==◌, ℕ, take}
use Rattle.std.specs.List.{list_any}
use Rattle.state_tables.specs.Copies.{AreCounted, has_room}
use Rattle.state_tables.proofs.copies.Copies.with_room.Given as goal

abbrev pub invariant-loop-receiver : goal.invariant-loop-receiver
invariant-loop-receiver l = (counts : ℕ → ℕ) → AreCounted l.fn.self counts → (link : ℕ) → list_any (λ m. m == link) l.due.items ≡ has_room (take l.receiver-index l.receivers) link (counts link)
