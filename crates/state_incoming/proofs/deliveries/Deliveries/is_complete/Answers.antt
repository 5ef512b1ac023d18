use Rattle.std.proofs.Common.{◌∙◌}
use Rattle.trace_events.specs.View.{incoming_view}
use Rattle.state_incoming.proofs.KnownEntries.{known-complete}
use Rattle.state_incoming.proofs.deliveries.Deliveries.is_complete.Goals as goal

pub returns : goal.returns
returns c = λ rules past are knows. c.says_complete.ensures ∙ known-complete rules past c.args.self.now are (incoming_view c.args.delivery.now) knows
