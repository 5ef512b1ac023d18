use Rattle.amqp_perf.proofs.Writable.{later_writable}
use Rattle.amqp_perf.proofs.transfer.Transfer.later.Goals as goal

pub returns-clause-writable : goal.returns-clause-writable
returns-clause-writable c = later_writable c.args.handle c.args.more
