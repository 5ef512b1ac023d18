use Rattle.std.proofs.Common.{◌≡◌}
use Rattle.trace_events.specs.Outgoing.{is_sent}
use Rattle.trace_law.specs.OnStack.{events}
use Rattle.trace_events.specs.View.{outgoing_view}
use Rattle.trace_law.proofs.past.Past.is_sent.Given as goal

abbrev pub invariant-loop-rest : goal.invariant-loop-rest
invariant-loop-rest l = is_sent (outgoing_view l.delivery) (events l.rest) ≡ is_sent (outgoing_view l.delivery) (events l.self)
