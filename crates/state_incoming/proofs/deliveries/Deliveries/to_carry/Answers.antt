use Rattle.std.proofs.Common.{◌≡◌, sym, subst, ◌∙◌, Option, Some, IfSome}
use Rattle.trace_events.specs.Event.{Incoming}
use Rattle.trace_events.specs.TransferClause.{to_carry}
use Rattle.state_incoming.specs.EntryAnswers.{Knows}
use Rattle.state_incoming.proofs.KnownEntries.{given-carried, known-carried, knows-carried}
use Rattle.state_incoming.proofs.deliveries.Deliveries.to_carry.Goals as goal

pub returns-clause-value : goal.returns-clause-value
returns-clause-value c = λ rules past are there. c.to_go_by.ensures ∙ known-carried rules past c.args.self.now are c.args.note there

pub returns-clause-known : goal.returns-clause-known
returns-clause-known c = λ rules past are.
    subst (λ (o : Option Incoming). IfSome o (Knows c.args.self.now)) (sym c.to_go_by.ensures) (knows-carried rules past c.args.self.now are c.args.note)

pub returns-clause-given : goal.returns-clause-given
returns-clause-given c = λ rules past are.
    let Given : Option Incoming → Type 0 = λ o. IfSome o (λ d. to_carry rules c.args.note past ≡ Some d) in
    subst Given (sym c.to_go_by.ensures) (given-carried rules past c.args.self.now are c.args.note)
