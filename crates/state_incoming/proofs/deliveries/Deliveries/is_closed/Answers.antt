use Rattle.std.proofs.Common.{◌∙◌}
use Rattle.trace_events.specs.View.{incoming_view}
use Rattle.state_incoming.proofs.KnownEntries.{known-closed}
use Rattle.state_incoming.proofs.deliveries.Deliveries.is_closed.Goals as goal

pub returns : goal.returns
returns c = λ rules past are knows. c.says_closed.ensures ∙ known-closed rules past c.args.self.now are (incoming_view c.args.delivery.now) knows
