use Rattle.std.proofs.Common.{List}
use Rattle.trace_events.specs.Event.{Event}
use Rattle.state_answers.specs.Tables.{TellsOf}
use Rattle.number_groups.specs.Ascending.{count_of}
use Rattle.due_lists.specs.Credits.{HasCredits}
use Rattle.due_lists.proofs.credits.Credits.first_due.Given as goal

abbrev pub invariant-loop-number : goal.invariant-loop-number
invariant-loop-number l = (past : List Event) → TellsOf l.rules l.tables past → HasCredits l.rules l.fn.self past → HasCredits l.rules l.self past

abbrev pub decreases-loop-number : goal.decreases-loop-number
decreases-loop-number l = count_of l.self.links
