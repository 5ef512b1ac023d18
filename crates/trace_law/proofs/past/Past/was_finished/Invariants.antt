use Rattle.std.proofs.Common.{◌≡◌}
use Rattle.trace_events.specs.Connection.{was_finished}
use Rattle.trace_law.specs.OnStack.{events}
use Rattle.trace_law.proofs.past.Past.was_finished.Given as goal

abbrev pub invariant-loop-rest : goal.invariant-loop-rest
invariant-loop-rest l = was_finished l.connection (events l.rest) ≡ was_finished l.connection (events l.self)
