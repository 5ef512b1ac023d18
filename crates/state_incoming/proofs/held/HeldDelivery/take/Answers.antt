use Rattle.trace_events.specs.View.{event_view}
use Rattle.state_incoming.specs.HeldViews.{held_view}
use Rattle.state_incoming.proofs.HeldKnown.{follows}
use Rattle.state_incoming.proofs.held.HeldDelivery.take.Goals as goal

pub returns-clause-known : goal.returns-clause-known
returns-clause-known c = follows c.args.rules.now (event_view c.args.event.now) c.args.address.now c.args.has_consumer (held_view c.args.self.now) _ c.in_ok-stays.ensures.next
