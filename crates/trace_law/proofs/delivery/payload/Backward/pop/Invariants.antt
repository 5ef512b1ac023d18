use Rattle.std.proofs.Common.{◌≡◌, length, reverse, ◌++◌}
use Rattle.trace_law.specs.Payloads.{left, backward}
use Rattle.trace_law.specs.OnStack.{events}
use Rattle.trace_law.proofs.delivery.payload.Backward.pop.Given as goal

abbrev pub invariant-loop-part : goal.invariant-loop-part
invariant-loop-part l = reverse l.part ++ backward l.self.delivery (events l.rest) ≡ left l.self

abbrev pub decreases-loop-part : goal.decreases-loop-part
decreases-loop-part l = length (events l.rest)
