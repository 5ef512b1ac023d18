use Rattle.std.proofs.Common.{◌≡◌}
use Rattle.trace_events.specs.Connection.{is_over}
use Rattle.trace_law.specs.OnStack.{events}
use Rattle.trace_law.proofs.past.Past.is_over.Given as goal

abbrev pub invariant-loop-rest : goal.invariant-loop-rest
invariant-loop-rest l = is_over l.connection (events l.rest) ≡ is_over l.connection (events l.self)
