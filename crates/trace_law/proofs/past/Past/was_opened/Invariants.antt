use Rattle.std.proofs.Common.{◌≡◌}
use Rattle.trace_events.specs.Connection.{was_opened}
use Rattle.trace_law.specs.OnStack.{events}
use Rattle.trace_law.proofs.past.Past.was_opened.Given as goal

abbrev pub invariant-loop-rest : goal.invariant-loop-rest
invariant-loop-rest l = was_opened l.connection (events l.rest) ≡ was_opened l.connection (events l.self)
