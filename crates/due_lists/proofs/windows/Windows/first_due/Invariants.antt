use Rattle.std.proofs.Common.{List}
use Rattle.capture_form.specs.Rules.{RuleSet}
use Rattle.trace_events.specs.Event.{Event}
use Rattle.state_answers.specs.Tables.{TellsOf}
use Rattle.due_lists.specs.Candidates.{count_of}
use Rattle.due_lists.specs.Windows.{HasLacking}
use Rattle.due_lists.proofs.windows.Windows.first_due.Given as goal

abbrev pub invariant-loop-number : goal.invariant-loop-number
invariant-loop-number l = (rules : RuleSet) (past : List Event) → TellsOf rules l.tables past → HasLacking l.fn.self past → HasLacking l.self past

abbrev pub decreases-loop-number : goal.decreases-loop-number
decreases-loop-number l = count_of l.self.sessions
