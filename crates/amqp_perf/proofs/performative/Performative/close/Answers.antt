use Rattle.amqp_perf.proofs.Writable.{close_writable}
use Rattle.amqp_perf.proofs.performative.Performative.close.Goals as goal

pub returns-clause-writable : goal.returns-clause-writable
returns-clause-writable c = close_writable c.args.error
