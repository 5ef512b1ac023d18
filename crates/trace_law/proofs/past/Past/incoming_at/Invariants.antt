use Rattle.std.proofs.Common.{◌≡◌}
use Rattle.trace_events.specs.Incoming.{incoming_at}
use Rattle.trace_law.specs.OnStack.{events}
use Rattle.trace_law.proofs.past.Past.incoming_at.Given as goal

abbrev pub invariant-loop-rest : goal.invariant-loop-rest
invariant-loop-rest l = incoming_at l.number (events l.rest) ≡ incoming_at l.number (events l.self)
