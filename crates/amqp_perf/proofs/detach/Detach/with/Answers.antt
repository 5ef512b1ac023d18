use Rattle.amqp_perf.proofs.Writable.{detach_writable}
use Rattle.amqp_perf.proofs.detach.Detach.with.Goals as goal

pub returns-clause-writable : goal.returns-clause-writable
returns-clause-writable c = detach_writable c.args.handle c.args.closed c.args.error
