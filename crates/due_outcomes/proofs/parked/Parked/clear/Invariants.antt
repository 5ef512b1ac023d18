use Rattle.due_outcomes.proofs.ParkedSteps.{IsClear, IsLess}
use Rattle.due_outcomes.proofs.parked.Parked.clear.Given as goal

abbrev pub invariant-loop : goal.invariant-loop
invariant-loop l = IsClear l.carried l.fn.self l.self × IsLess l.carried l.fn.self l.self
