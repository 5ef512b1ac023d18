use Rattle.std.proofs.Common.{◌≡◌}
use Rattle.trace_events.specs.Incoming.{is_settled}
use Rattle.trace_law.specs.OnStack.{events}
use Rattle.trace_events.specs.View.{incoming_view}
use Rattle.trace_law.proofs.past.Past.is_settled.Given as goal

abbrev pub invariant-loop-rest : goal.invariant-loop-rest
invariant-loop-rest l = is_settled (incoming_view l.delivery) (events l.rest) ≡ is_settled (incoming_view l.delivery) (events l.self)
