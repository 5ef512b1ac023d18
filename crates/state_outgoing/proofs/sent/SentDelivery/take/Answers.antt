use Rattle.trace_events.specs.View.{event_view}
use Rattle.state_outgoing.specs.SentViews.{sent_view}
use Rattle.state_outgoing.proofs.SentKnown.{follows}
use Rattle.state_outgoing.proofs.sent.SentDelivery.take.Goals as goal

pub returns-clause-known : goal.returns-clause-known
returns-clause-known c = follows (event_view c.args.event.now) (sent_view c.args.self.now) _ c.in_ok-move_on.ensures.next
