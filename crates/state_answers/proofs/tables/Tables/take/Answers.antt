use Rattle.std.proofs.Common.{sym, subst}
use Rattle.trace_events.specs.History.{history}
use Rattle.trace_events.specs.View.{event_view}
use Rattle.state_tables.specs.Addressed.{IsAddressed}
use Rattle.state_answers.proofs.tables.Tables.take.Goals as goal

pub returns-clause-stand : goal.returns-clause-stand
returns-clause-stand c = λ records r next tables.
    let rules = c.args.rules.now in
    let Own = IsAddressed (event_view c.args.event.now) (history rules records) in
    let own = subst Own (sym c.octets.ensures) (c.completed_for-completed.ensures.addressed rules records r next tables.1.1.1.1.0) in
    c.in_ok-take_addressed.ensures.stand records r next own tables

pub returns-clause-last : goal.returns-clause-last
returns-clause-last c = λ records r next tables keeps. c.in_ok-take_addressed.ensures.last records r next tables keeps
