use Rattle.std.proofs.Common.{◌≡◌, length, bytes_eq}
use Rattle.trace_law.specs.Payloads.{left}
use Rattle.trace_law.proofs.delivery.payload.Backward.is_same.Given as goal

abbrev pub invariant-loop-octet : goal.invariant-loop-octet
invariant-loop-octet l = bytes_eq (left l.left) (left l.expected) ≡ bytes_eq (left l.fn.self) (left l.fn.other)

abbrev pub decreases-loop-octet : goal.decreases-loop-octet
decreases-loop-octet l = length (left l.left)
