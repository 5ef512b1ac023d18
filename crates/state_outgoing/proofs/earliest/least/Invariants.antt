use Rattle.std.proofs.Common.{◌≡◌, take}
use Rattle.number_groups.specs.Groups.{numbers}
use Rattle.state_outgoing.specs.Earliest as law
use Rattle.state_outgoing.proofs.earliest.least.Given as goal

abbrev pub invariant-loop-index : goal.invariant-loop-index
invariant-loop-index g l = l.found ≡ law.least (g.T.NumberTest.does_pass l.test) (take l.index (numbers g.K.PartialEq.eq l.groups l.key))
