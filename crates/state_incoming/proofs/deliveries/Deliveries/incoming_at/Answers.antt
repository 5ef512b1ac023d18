use Rattle.std.proofs.Common.{sym, subst, ◌∙◌, Option, IfSome}
use Rattle.trace_events.specs.Event.{Incoming}
use Rattle.state_incoming.specs.EntryAnswers.{Knows}
use Rattle.state_incoming.proofs.KnownEntries.{known-at, knows-given}
use Rattle.state_incoming.proofs.deliveries.Deliveries.incoming_at.Goals as goal

pub returns-clause-value : goal.returns-clause-value
returns-clause-value c = λ rules past are has. c.delivery.ensures ∙ known-at rules past c.args.self.now are c.args.number has

pub returns-clause-known : goal.returns-clause-known
returns-clause-known c = λ rules past are.
    subst (λ (o : Option Incoming). IfSome o (Knows c.args.self.now)) (sym c.delivery.ensures) (knows-given rules past c.args.self.now are c.args.number)
