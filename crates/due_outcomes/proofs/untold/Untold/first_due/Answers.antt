use Rattle.std.proofs.Common.{refl}
use Rattle.trace_events.specs.History.{history}
use Rattle.due_outcomes.proofs.OutcomesDue.{forgotten, none-left}
use Rattle.due_outcomes.proofs.untold.Untold.first_due.Goals as goal

pub loop-number-preserved : goal.loop-number-preserved
loop-number-preserved c = λ records stands was.
    forgotten c.args.rules.now (history c.args.rules.now records) c.args.tables.now stands c.loop-number.self c.forget.new.self c.in-Some.number
    (c.in_default-outcome_of.ensures.none refl records stands) (c.loop-number.invariant records stands was)
    c.forget.ensures.left c.forget.ensures.carried c.forget.ensures.opens

pub returns-clause-quiet : goal.returns-clause-quiet
returns-clause-quiet c = λ none records stands was.
    none-left c.args.rules.now (history c.args.rules.now records) c.loop-number.self (c.loop-number.invariant records stands was) (c.in_default.ensures.none refl)
