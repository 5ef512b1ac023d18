use Rattle.std.proofs.Common.{◌≡◌}
use Rattle.trace_events.specs.Incoming.{completion}
use Rattle.trace_law.specs.OnStack.{events}
use Rattle.trace_events.specs.View.{incoming_view}
use Rattle.trace_law.proofs.past.Past.completion.Given as goal

abbrev pub invariant-loop-rest : goal.invariant-loop-rest
invariant-loop-rest l = completion (incoming_view l.delivery) (events l.rest) ≡ completion (incoming_view l.delivery) (events l.self)
