use Rattle.std.proofs.Common.{◌≡◌, ℕ, take}
use Rattle.state_tables.specs.EndedLinks.{views}
use Rattle.state_tables.specs.ConsumerLinks.{link_in, without}
use Rattle.state_tables.proofs.consumer_links.ConsumerLinks.end.Given as goal

abbrev pub invariant-loop-link : goal.invariant-loop-link
invariant-loop-link l = (n : ℕ) → link_in l.self n ≡ without (views (take l.link-index l.ended)) n (link_in l.fn.self n)
