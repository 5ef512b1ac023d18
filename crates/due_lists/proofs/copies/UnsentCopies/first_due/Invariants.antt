use Rattle.std.proofs.Common.{List}
use Rattle.trace_events.specs.Event.{Event}
use Rattle.state_answers.specs.Tables.{TellsOf}
use Rattle.due_lists.specs.CopyCandidates.{count_of}
use Rattle.due_lists.specs.Copies.{HasUnsent}
use Rattle.due_lists.proofs.copies.UnsentCopies.first_due.Given as goal

abbrev pub invariant-loop-completion : goal.invariant-loop-completion
invariant-loop-completion l = (past : List Event) → TellsOf l.rules l.tables past → HasUnsent l.rules l.fn.self past → HasUnsent l.rules l.self past

abbrev pub decreases-loop-completion : goal.decreases-loop-completion
decreases-loop-completion l = count_of l.self.unsent.links
