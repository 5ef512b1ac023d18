use Rattle.std.proofs.Common.{◌≡◌}
use Rattle.trace_events.specs.Session.{last_in_begin}
use Rattle.trace_law.specs.OnStack.{events}
use Rattle.trace_law.proofs.past.Past.last_in_begin.Given as goal

abbrev pub invariant-loop-rest : goal.invariant-loop-rest
invariant-loop-rest l = last_in_begin l.connection l.channel (events l.rest) ≡ last_in_begin l.connection l.channel (events l.self)
