use Rattle.std.proofs.Common.{ap, ◌+◌, ◌∙◌, length}
use Rattle.std.specs.Prelude.{nat_lt}
use Rattle.trace_events.specs.View.{incoming_view}
use Rattle.state_incoming.proofs.KnownEntries.{known-payload}
use Rattle.state_incoming.proofs.deliveries.Deliveries.is_longer.Goals as goal

pub returns : goal.returns
returns c = λ rules past are knows.
    c.exceeds.ensures
    ∙ ap (λ xs. nat_lt c.args.limit (length xs + length c.args.octets.now))
    (c.octets.ensures ∙ known-payload rules past c.args.self.now are (incoming_view c.args.delivery.now) knows)
