use Rattle.std.proofs.Common.{◌≡◌, ℕ, true, false, take}
use Rattle.state_tables.specs.EndedLinks.{views}
use Rattle.state_tables.specs.ConsumerLinks.{has_link}
use Rattle.due_lists.specs.BySession.{stands}
use Rattle.due_lists.proofs.by_session.BySession.end.Given as goal

abbrev pub invariant-loop-link : goal.invariant-loop-link
invariant-loop-link l = (session n : ℕ) → has_link (views (take l.link-index l.ended)) n ≡ false → stands l.fn.self session n ≡ true → stands l.self session n ≡ true
