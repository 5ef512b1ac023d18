use Rattle.std.proofs.Common.{◌≡◌, length}
use Rattle.flow_counts.specs.Covers.{covered}
use Rattle.unsettled.proofs.outstanding.CoveredIterator.next.Given as goal

abbrev pub invariant-loop-number : goal.invariant-loop-number
invariant-loop-number l =
    covered l.self-inside.first l.self-inside.last l.self-inside.entries ≡ covered l.initial.self-inside.first l.initial.self-inside.last l.initial.self-inside.entries

abbrev pub decreases-loop-number : goal.decreases-loop-number
decreases-loop-number l = length l.self-inside.entries
