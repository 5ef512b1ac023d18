use Rattle.std.proofs.Common.{◌≡◌}
use Rattle.trace_events.specs.Link.{last_in_attach}
use Rattle.trace_law.specs.OnStack.{events}
use Rattle.trace_law.proofs.past.Past.last_in_attach.Given as goal

abbrev pub invariant-loop-rest : goal.invariant-loop-rest
invariant-loop-rest l = last_in_attach l.session l.handle (events l.rest) ≡ last_in_attach l.session l.handle (events l.self)
