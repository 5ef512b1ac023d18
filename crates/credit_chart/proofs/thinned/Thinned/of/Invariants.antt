use Rattle.std.proofs.Common.{take}
use Rattle.credit_chart.specs.Thinned.{AreThinned}
use Rattle.credit_chart.proofs.thinned.Thinned.of.Given as goal

abbrev pub invariant-loop-found : goal.invariant-loop-found
invariant-loop-found l = AreThinned (take l.found-index l.levels) l.thinned
