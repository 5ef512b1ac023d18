use Rattle.std.proofs.Common.{option_map}
use Rattle.trace_events.specs.View.{event_view}
use Rattle.state_incoming.specs.HeldViews.{held_view}
use Rattle.state_incoming.proofs.HeldKnown.{begins}
use Rattle.state_incoming.proofs.held.HeldDelivery.begin.Goals as goal

pub returns-clause-known : goal.returns-clause-known
returns-clause-known c = begins c.args.rules.now (event_view c.args.event.now) c.args.address.now c.args.has_consumer (option_map held_view c.in_ok-held.held) c.in_ok-held.ensures.begun
