use Rattle.std.proofs.Common.{◌≡◌}
use Rattle.trace_events.specs.Session.{owes_end}
use Rattle.trace_law.specs.OnStack.{events}
use Rattle.trace_law.proofs.past.Past.owes_end.Given as goal

abbrev pub invariant-loop-rest : goal.invariant-loop-rest
invariant-loop-rest l = owes_end l.connection l.channel (events l.rest) ≡ owes_end l.connection l.channel (events l.self)
