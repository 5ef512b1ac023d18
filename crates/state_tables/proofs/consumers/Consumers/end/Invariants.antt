use Rattle.std.proofs.Common.{◌≡◌, ◌&&◌, ℕ, List, not, take}
use Rattle.state_tables.specs.EndedLinks.{views}
use Rattle.state_tables.specs.Consumers.{has_link_of, stands}
use Rattle.state_tables.proofs.consumers.Consumers.end.Given as goal

abbrev pub invariant-loop-link : goal.invariant-loop-link
invariant-loop-link l = (address : List ℕ) (n : ℕ) → stands l.self address n ≡ (stands l.fn.self address n && not (has_link_of (views (take l.link-index l.ended)) address n))
