use Rattle.std.proofs.Common.{List}
use Rattle.capture_form.specs.declared.records.Record.{Record}
use Rattle.trace_events.specs.History.{history}
use Rattle.number_groups.specs.Ascending.{count_of}
use Rattle.state_answers.specs.Tables.{TellsOf}
use Rattle.due_outcomes.specs.Untold.{HasUntold}
use Rattle.due_outcomes.proofs.untold.Untold.first_due.Given as goal

abbrev pub invariant-loop-number : goal.invariant-loop-number
invariant-loop-number l = (records : List Record) → TellsOf l.rules l.tables (history l.rules records) → HasUntold l.rules l.fn.self (history l.rules records)
    → HasUntold l.rules l.self (history l.rules records)

abbrev pub decreases-loop-number : goal.decreases-loop-number
decreases-loop-number l = count_of l.self.candidates
