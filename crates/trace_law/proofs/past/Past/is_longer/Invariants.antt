use Rattle.std.proofs.Common.{◌≡◌, ◌+◌, length}
use Rattle.trace_events.specs.Incoming.{payload}
use Rattle.trace_law.specs.OnStack.{events}
use Rattle.trace_events.specs.View.{incoming_view}
use Rattle.trace_law.proofs.past.Past.is_longer.Given as goal

abbrev pub invariant-loop-rest : goal.invariant-loop-rest
invariant-loop-rest l =
    l.room + length (payload (incoming_view l.incoming) (events l.self)) + length l.octets
    ≡ l.limit + length (payload (incoming_view l.incoming) (events l.rest))

abbrev pub decreases-loop-rest : goal.decreases-loop-rest
decreases-loop-rest l = length (events l.rest)
