use Rattle.std.proofs.Common.{◌≡◌}
use Rattle.trace_events.specs.Waiting.{always_had_consumer}
use Rattle.trace_law.specs.OnStack.{events}
use Rattle.trace_events.specs.View.{incoming_view}
use Rattle.trace_law.proofs.past.Past.always_had_consumer.Given as goal

abbrev pub invariant-loop-rest : goal.invariant-loop-rest
invariant-loop-rest l =
    always_had_consumer (incoming_view l.delivery) (events l.rest) ≡ always_had_consumer (incoming_view l.delivery) (events l.self)
