use Rattle.std.proofs.Common.{◌≡◌}
use Rattle.trace_events.specs.Link.{unanswered_attach}
use Rattle.trace_law.specs.OnStack.{events}
use Rattle.trace_law.proofs.past.Past.unanswered_attach.Given as goal

abbrev pub invariant-loop-rest : goal.invariant-loop-rest
invariant-loop-rest l = unanswered_attach l.session l.handle (events l.rest) ≡ unanswered_attach l.session l.handle (events l.self)
