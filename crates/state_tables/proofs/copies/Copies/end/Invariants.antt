use Rattle.std.proofs.Common.{◌≡◌, ◌&&◌, ℕ, not, take}
use Rattle.state_tables.specs.EndedLinks.{views}
use Rattle.state_tables.specs.ConsumerLinks.{has_link}
use Rattle.state_tables.specs.Copies.{stands}
use Rattle.state_tables.proofs.copies.Copies.end.Given as goal

abbrev pub invariant-loop-link : goal.invariant-loop-link
invariant-loop-link l = (link n : ℕ) → stands l.self link n ≡ (stands l.fn.self link n && not (has_link (views (take l.link-index l.ended)) link))
