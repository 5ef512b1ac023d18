use Rattle.amqp_perf.proofs.Writable.{settling_writable}
use Rattle.amqp_perf.proofs.disposition.Disposition.settling.Goals as goal

pub returns-clause-writable : goal.returns-clause-writable
returns-clause-writable c = settling_writable c.args.delivery_id
