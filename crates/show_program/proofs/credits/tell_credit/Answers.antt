use Rattle.std.proofs.Common.{refl}
use Rattle.show_program.proofs.credits.tell_credit.Goals as goal

pub returns-in-Ok-clause-explained : goal.returns-in-Ok-clause-explained
returns-in-Ok-clause-explained g c = λ written named drawn.
    let told = c.tell_verdict.ensures.told written in
    (c.in-Ok.verdict, c.in-Ok.is, told.0, told.1)
