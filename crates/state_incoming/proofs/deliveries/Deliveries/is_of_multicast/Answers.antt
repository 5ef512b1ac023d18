use Rattle.std.proofs.Common.{ap, ◌∙◌}
use Rattle.trace_events.specs.Address.{has_multicast}
use Rattle.trace_events.specs.View.{incoming_view}
use Rattle.state_incoming.proofs.KnownEntries.{known-address}
use Rattle.state_incoming.proofs.deliveries.Deliveries.is_of_multicast.Goals as goal

pub returns : goal.returns
returns c = λ past are knows.
    c.has_multicast.ensures
    ∙ ap (has_multicast c.args.rules.now) (c.held_for.ensures ∙ known-address c.args.rules.now past c.args.self.now are (incoming_view c.args.delivery.now) knows)
