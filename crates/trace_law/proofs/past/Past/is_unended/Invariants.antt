use Rattle.std.proofs.Common.{◌≡◌}
use Rattle.trace_events.specs.Session.{is_unended}
use Rattle.trace_law.specs.OnStack.{events}
use Rattle.trace_law.proofs.past.Past.is_unended.Given as goal

abbrev pub invariant-loop-rest : goal.invariant-loop-rest
invariant-loop-rest l = is_unended l.connection l.channel (events l.rest) ≡ is_unended l.connection l.channel (events l.self)
