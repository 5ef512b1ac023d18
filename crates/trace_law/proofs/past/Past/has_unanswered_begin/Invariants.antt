use Rattle.std.proofs.Common.{◌≡◌}
use Rattle.trace_events.specs.Session.{has_unanswered_begin}
use Rattle.trace_law.specs.OnStack.{events}
use Rattle.trace_law.proofs.past.Past.has_unanswered_begin.Given as goal

abbrev pub invariant-loop-rest : goal.invariant-loop-rest
invariant-loop-rest l = has_unanswered_begin l.connection l.channel (events l.rest) ≡ has_unanswered_begin l.connection l.channel (events l.self)
