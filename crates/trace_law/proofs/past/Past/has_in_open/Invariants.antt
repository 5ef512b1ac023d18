use Rattle.std.proofs.Common.{◌≡◌}
use Rattle.trace_events.specs.Connection.{has_in_open}
use Rattle.trace_law.specs.OnStack.{events}
use Rattle.trace_law.proofs.past.Past.has_in_open.Given as goal

abbrev pub invariant-loop-rest : goal.invariant-loop-rest
invariant-loop-rest l = has_in_open l.connection (events l.rest) ≡ has_in_open l.connection (events l.self)
