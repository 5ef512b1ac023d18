use Rattle.amqp_perf.proofs.Writable.{end_writable}
use Rattle.amqp_perf.proofs.performative.Performative.end.Goals as goal

pub returns-clause-writable : goal.returns-clause-writable
returns-clause-writable c = end_writable c.args.error
