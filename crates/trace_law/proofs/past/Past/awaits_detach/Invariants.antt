use Rattle.std.proofs.Common.{◌≡◌}
use Rattle.trace_events.specs.Link.{awaits_detach}
use Rattle.trace_law.specs.OnStack.{events}
use Rattle.trace_law.proofs.past.Past.awaits_detach.Given as goal

abbrev pub invariant-loop-rest : goal.invariant-loop-rest
invariant-loop-rest l = awaits_detach l.session l.handle (events l.rest) ≡ awaits_detach l.session l.handle (events l.self)
