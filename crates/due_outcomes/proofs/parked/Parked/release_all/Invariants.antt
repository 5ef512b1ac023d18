use Rattle.number_groups.specs.Ascending.{count_of}
use Rattle.due_outcomes.specs.Candidates.{Grows}
use Rattle.due_outcomes.proofs.ParkedSteps.{IsMoved}
use Rattle.due_outcomes.proofs.parked.Parked.release_all.Given as goal

abbrev pub invariant-loop-number : goal.invariant-loop-number
invariant-loop-number l = Grows l.fn.candidates l.candidates × IsMoved l.fn.self.numbers l.candidates l.self.numbers

abbrev pub decreases-loop-number : goal.decreases-loop-number
decreases-loop-number l = count_of l.self.numbers
