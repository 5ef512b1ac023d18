use Rattle.std.proofs.Common.{◌≡◌, refl, sym, ℕ, List, Option, Some, None, IfSome, option_map}
use Rattle.capture_form.specs.Rules.{RuleSet}
use Rattle.capture_form.specs.declared.records.Record.{Record}
use Rattle.trace_events.specs.History.{history}
use Rattle.trace_events.specs.View.{outgoing_view}
use Rattle.trace_events.specs.declared.event.Outgoing.{Outgoing}
use Rattle.state_answers.specs.declared.lent_tables.LentTables.{LentTables}
use Rattle.state_answers.specs.Tables.{TellsOf}
use Rattle.due_outcomes.specs.Settlings.{IsDueSettling, due_in}
use Rattle.due_outcomes.proofs.SettlingsDue.{due-is, none-left}
use Rattle.due_outcomes.proofs.unsettled.Unsettled.first_due.Goals as goal

due-by : (tables : LentTables) (n : ℕ) (o : Option Outgoing) → option_map outgoing_view o ≡ due_in tables.sent.now tables.deliveries.now n
    → IfSome o (λ j. (rules : RuleSet) (records : List Record) → TellsOf rules tables (history rules records) → IsDueSettling (history rules records) (outgoing_view j))
due-by tables n None is = tt
due-by tables n (Some j) is = λ rules records stands. due-is rules (history rules records) tables stands n (outgoing_view j) (sym is)

pub returns-in_err-number-clause-quiet : goal.returns-in_err-number-clause-quiet
returns-in_err-number-clause-quiet c = λ none rules records stands was.
    none-left rules (history rules records) c.args.tables.now stands c.sort_lowest.new.self (c.sort_lowest.ensures rules records stands was) (c.in_err-number.ensures.none refl)

pub returns-clause-due : goal.returns-clause-due
returns-clause-due c = due-by c.args.tables.now c.in_ok-number.number c.settling_of.result c.settling_of.ensures
