use Rattle.std.proofs.Common.{◌≡◌}
use Rattle.trace_events.specs.Link.{is_undetached}
use Rattle.trace_law.specs.OnStack.{events}
use Rattle.trace_law.proofs.past.Past.is_undetached.Given as goal

abbrev pub invariant-loop-rest : goal.invariant-loop-rest
invariant-loop-rest l = is_undetached l.session l.handle (events l.rest) ≡ is_undetached l.session l.handle (events l.self)
