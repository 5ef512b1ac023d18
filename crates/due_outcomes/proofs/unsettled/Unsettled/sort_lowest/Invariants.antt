use Rattle.std.proofs.Common.{List}
use Rattle.capture_form.specs.Rules.{RuleSet}
use Rattle.capture_form.specs.declared.records.Record.{Record}
use Rattle.trace_events.specs.History.{history}
use Rattle.number_groups.specs.Ascending.{count_of}
use Rattle.state_answers.specs.Tables.{TellsOf}
use Rattle.due_outcomes.specs.Unsettled.{HasUnsettled}
use Rattle.due_outcomes.proofs.unsettled.Unsettled.sort_lowest.Given as goal

abbrev pub invariant-loop-number : goal.invariant-loop-number
invariant-loop-number l = (rules : RuleSet) (records : List Record) → TellsOf rules l.tables (history rules records) → HasUnsettled l.fn.self (history rules records)
    → HasUnsettled l.self (history rules records)

abbrev pub decreases-loop-number : goal.decreases-loop-number
decreases-loop-number l = count_of l.self.candidates
