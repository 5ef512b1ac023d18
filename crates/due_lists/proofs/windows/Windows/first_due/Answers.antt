use Rattle.std.proofs.Common.{refl}
use Rattle.state_incoming.proofs.GroupAnswers.{judged-of}
use Rattle.due_lists.specs.Candidates.{value_of}
use Rattle.due_lists.proofs.WindowsFollowed.{none-lacking}
use Rattle.due_lists.proofs.windows.Windows.first_due.Goals as goal

pub returns-clause-quiet : goal.returns-clause-quiet
returns-clause-quiet c = λ rules past are has none.
    none-lacking rules past (judged-of rules past are.0) (value_of c.loop-number.self.sessions) (c.loop-number.invariant rules past are has) (c.in_default.ensures.none refl)
