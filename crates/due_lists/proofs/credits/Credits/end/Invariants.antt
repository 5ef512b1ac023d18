use Rattle.std.proofs.Common.{take}
use Rattle.state_tables.specs.EndedLinks.{views}
use Rattle.due_lists.specs.Credits.{AreEndedIn}
use Rattle.due_lists.proofs.credits.Credits.end.Given as goal

abbrev pub invariant-loop-link : goal.invariant-loop-link
invariant-loop-link l = AreEndedIn (views (take l.link-index l.ended)) l.fn.self l.self
