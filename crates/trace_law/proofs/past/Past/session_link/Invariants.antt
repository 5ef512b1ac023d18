use Rattle.std.proofs.Common.{◌≡◌}
use Rattle.trace_events.specs.Link.{session_link}
use Rattle.trace_law.specs.OnStack.{events}
use Rattle.trace_law.proofs.past.Past.session_link.Given as goal

abbrev pub invariant-loop-rest : goal.invariant-loop-rest
invariant-loop-rest l = session_link l.session l.handle (events l.rest) ≡ session_link l.session l.handle (events l.self)
