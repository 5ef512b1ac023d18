use Rattle.std.proofs.Common.{◌∙◌}
use Rattle.trace_events.specs.View.{incoming_view}
use Rattle.state_incoming.proofs.KnownEntries.{known-before}
use Rattle.state_incoming.proofs.deliveries.Deliveries.completed_before.Goals as goal

pub returns : goal.returns
returns c = λ rules past are first second.
    c.is_before.ensures ∙ known-before rules past c.args.self.now are (incoming_view c.args.first.now) (incoming_view c.args.second.now) first second
