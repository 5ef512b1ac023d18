use Rattle.due_lists.proofs.DetachedLinks.{AreDetached}
use Rattle.due_lists.proofs.picks.Picks.detach.Given as goal

abbrev pub invariant-loop-link : goal.invariant-loop-link
invariant-loop-link l = AreDetached l.ended l.link-index l.fn.self.table l.self.table
