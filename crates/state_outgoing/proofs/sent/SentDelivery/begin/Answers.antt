use Rattle.std.proofs.Common.{option_map}
use Rattle.trace_events.specs.View.{event_view}
use Rattle.state_outgoing.specs.SentViews.{sent_view}
use Rattle.state_outgoing.proofs.SentKnown.{begins}
use Rattle.state_outgoing.proofs.sent.SentDelivery.begin.Goals as goal

pub returns-clause-known : goal.returns-clause-known
returns-clause-known c = begins (event_view c.args.event.now) (option_map sent_view c.in_ok-own.own) c.in_ok-own.ensures.begun
