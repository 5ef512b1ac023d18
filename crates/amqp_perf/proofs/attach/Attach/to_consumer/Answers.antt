use Rattle.std.proofs.Common.{rules}
use Rattle.amqp_perf.specs.View.{attach_fields}
use Rattle.amqp_perf.proofs.Writable.{to_consumer_writable}
use Rattle.amqp_perf.proofs.attach.Attach.to_consumer.Goals as goal

pub returns-clause-writable : goal.returns-clause-writable
returns-clause-writable c = to_consumer_writable (attach_fields c.args.self) c.args.address.now c.args.is_dynamic c.args.mode (search rules)
