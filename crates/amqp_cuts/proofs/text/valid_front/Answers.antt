use Rattle.std.proofs.Common.{arith}
use Rattle.amqp_cuts.proofs.text.valid_front.Goals as goal

pub returns-in-Err-clause-longest : goal.returns-in-Err-clause-longest
returns-in-Err-clause-longest c = λ more lt le is. c.in-Err.ensures.cases.1.longest more (omega (arith, lt, c.valid_up_to.ensures)) is
