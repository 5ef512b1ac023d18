use Rattle.std.proofs.Common.{◌≡◌}
use Rattle.trace_events.specs.Connection.{was_stopped}
use Rattle.trace_law.specs.OnStack.{events}
use Rattle.trace_law.proofs.past.Past.was_stopped.Given as goal

abbrev pub invariant-loop-rest : goal.invariant-loop-rest
invariant-loop-rest l = was_stopped l.connection (events l.rest) ≡ was_stopped l.connection (events l.self)
