use Rattle.std.proofs.Common.{◌∙◌}
use Rattle.trace_events.specs.View.{incoming_view}
use Rattle.state_incoming.proofs.KnownEntries.{known-payload}
use Rattle.state_incoming.proofs.deliveries.Deliveries.payload.Goals as goal

pub returns : goal.returns
returns c = λ rules past are knows. c.octets.ensures ∙ known-payload rules past c.args.self.now are (incoming_view c.args.delivery.now) knows
