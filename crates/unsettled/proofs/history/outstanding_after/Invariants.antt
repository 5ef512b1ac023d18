use Rattle.std.proofs.Common.{◌≡◌, take, reverse}
use Rattle.flow_counts.specs.Covers.{outstanding}
use Rattle.unsettled.proofs.history.outstanding_after.Given as goal

abbrev pub invariant-loop-event : goal.invariant-loop-event
invariant-loop-event l = l.outstanding ≡ outstanding (reverse (take l.event-index l.events))
