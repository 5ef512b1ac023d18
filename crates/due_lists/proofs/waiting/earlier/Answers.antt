use Rattle.std.proofs.Common.{sym, ◌∙◌}
use Rattle.trace_events.proofs.Parts.{holds_some}
use Rattle.trace_events.specs.View.{incoming_view}
use Rattle.state_incoming.specs.EntryAnswers.{Knows}
use Rattle.due_lists.specs.declared.begin.DueBegin.{DueBegin}
use Rattle.due_lists.proofs.EarliestDue.{first-stays, other-comes}
use Rattle.due_lists.proofs.waiting.earlier.Goals as goal

pub returns-then-completed_before-clause-order : goal.returns-then-completed_before-clause-order
returns-then-completed_before-clause-order c = λ rules past are one other.
    let knows = λ (due : DueBegin). Knows c.args.tables.now.deliveries.now (incoming_view due.delivery) in
    other-comes past c.args.first c.args.other c.in-Some.due c.in-Some.is
    (sym (c.completed_before.ensures rules past are.1.1.1.1.0.0 other (holds_some knows c.args.first c.in-Some.due c.in-Some.is one)) ∙ c.if-completed_before.true)

pub returns-else-completed_before-clause-order : goal.returns-else-completed_before-clause-order
returns-else-completed_before-clause-order c = λ rules past are one other.
    let knows = λ (due : DueBegin). Knows c.args.tables.now.deliveries.now (incoming_view due.delivery) in
    first-stays past c.args.first c.args.other c.in-Some.due c.in-Some.is
    (sym (c.completed_before.ensures rules past are.1.1.1.1.0.0 other (holds_some knows c.args.first c.in-Some.due c.in-Some.is one)) ∙ c.if-completed_before.false)
