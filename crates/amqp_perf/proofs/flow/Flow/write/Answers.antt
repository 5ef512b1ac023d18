use Rattle.amqp_perf.proofs.Again.{flow_again}
use Rattle.amqp_perf.proofs.Lengths.{flow_writable}
use Rattle.amqp_perf.proofs.flow.Flow.write.Goals as goal

pub returns-clause-again : goal.returns-clause-again
returns-clause-again c = flow_again c.args.self c.slots.ensures.each (flow_writable c.args.self).few
