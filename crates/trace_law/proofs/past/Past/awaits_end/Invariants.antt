use Rattle.std.proofs.Common.{◌≡◌}
use Rattle.trace_events.specs.Session.{awaits_end}
use Rattle.trace_law.specs.OnStack.{events}
use Rattle.trace_law.proofs.past.Past.awaits_end.Given as goal

abbrev pub invariant-loop-rest : goal.invariant-loop-rest
invariant-loop-rest l = awaits_end l.connection l.channel (events l.rest) ≡ awaits_end l.connection l.channel (events l.self)
