use Rattle.trace_law.specs.OnStack.{events}
use Rattle.trace_events.specs.View.{incoming_view}
use Rattle.trace_law.proofs.Payloads.{backward_incoming}
use Rattle.trace_law.proofs.past.Past.backward.Goals as goal

pub returns : goal.returns
returns c = backward_incoming (incoming_view c.args.incoming.now) (events c.args.self.now)
