use Rattle.std.proofs.Common.{◌∙◌}
use Rattle.trace_events.specs.View.{incoming_view}
use Rattle.state_incoming.proofs.KnownEntries.{known-gone}
use Rattle.state_incoming.proofs.deliveries.Deliveries.is_gone.Goals as goal

pub returns : goal.returns
returns c = λ rules past are knows. c.has_gone.ensures ∙ known-gone rules past c.args.self.now are (incoming_view c.args.delivery.now) knows
