use Rattle.std.proofs.Common.{◌∙◌}
use Rattle.trace_events.specs.View.{incoming_view}
use Rattle.state_incoming.proofs.KnownEntries.{known-address}
use Rattle.state_incoming.proofs.deliveries.Deliveries.address.Goals as goal

pub returns : goal.returns
returns c = λ rules past are knows. c.held_for.ensures ∙ known-address rules past c.args.self.now are (incoming_view c.args.delivery.now) knows
