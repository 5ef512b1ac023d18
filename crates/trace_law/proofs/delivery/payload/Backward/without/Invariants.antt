use Rattle.std.proofs.Common.{◌≡◌, length}
use Rattle.trace_law.specs.Payloads.{left, without}
use Rattle.trace_law.proofs.delivery.payload.Backward.without.Given as goal

abbrev pub invariant-loop-shorter : goal.invariant-loop-shorter
invariant-loop-shorter l = without (left l.left) (left l.uncounted) ≡ without (left l.fn.self) (left l.fn.other)

abbrev pub decreases-loop-shorter : goal.decreases-loop-shorter
decreases-loop-shorter l = length (left l.uncounted)
