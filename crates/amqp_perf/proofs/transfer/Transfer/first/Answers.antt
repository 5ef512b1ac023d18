use Rattle.amqp_perf.proofs.Writable.{first_writable}
use Rattle.amqp_perf.proofs.transfer.Transfer.first.Goals as goal

pub returns-clause-writable : goal.returns-clause-writable
returns-clause-writable c = first_writable c.args.handle c.args.delivery_id c.args.delivery_tag.now c.args.message_format c.args.settled c.args.more
