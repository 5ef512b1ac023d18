use Rattle.std.proofs.Common.{◌≡◌}
use Rattle.trace_events.specs.Connection.{has_out_frame}
use Rattle.trace_law.specs.OnStack.{events}
use Rattle.trace_law.proofs.past.Past.has_out_frame.Given as goal

abbrev pub invariant-loop-rest : goal.invariant-loop-rest
invariant-loop-rest l = has_out_frame l.connection (events l.rest) ≡ has_out_frame l.connection (events l.self)
