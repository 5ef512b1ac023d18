use Rattle.amqp_perf.proofs.Again.{begin_again}
use Rattle.amqp_perf.proofs.Lengths.{begin_writable}
use Rattle.amqp_perf.proofs.begin.Begin.write.Goals as goal

pub returns-clause-again : goal.returns-clause-again
returns-clause-again c = begin_again c.args.self c.slots.ensures.each (begin_writable c.args.self).few
