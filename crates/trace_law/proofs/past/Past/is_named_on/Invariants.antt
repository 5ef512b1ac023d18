use Rattle.std.proofs.Common.{◌≡◌}
use Rattle.trace_events.specs.Outgoing.{is_named_on}
use Rattle.trace_law.specs.OnStack.{events}
use Rattle.trace_events.specs.View.{link_view, incoming_view}
use Rattle.trace_law.proofs.past.Past.is_named_on.Given as goal

abbrev pub invariant-loop-rest : goal.invariant-loop-rest
invariant-loop-rest l = is_named_on (incoming_view l.delivery) (link_view l.link) (events l.rest) ≡ is_named_on (incoming_view l.delivery) (link_view l.link) (events l.self)
