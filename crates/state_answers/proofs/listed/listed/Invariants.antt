use Rattle.std.proofs.Common.{length}
use Rattle.state_answers.proofs.Moved.{AreMoved}
use Rattle.state_answers.proofs.listed.listed.Given as goal

abbrev pub invariant-loop-number : goal.invariant-loop-number
invariant-loop-number l = AreMoved l.fn.numbers l.numbers l.list.items

abbrev pub decreases-loop-number : goal.decreases-loop-number
decreases-loop-number l = length l.numbers
