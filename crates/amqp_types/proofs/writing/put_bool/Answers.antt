use Rattle.amqp_types.proofs.Written.{boolean_written}
use Rattle.amqp_types.proofs.writing.put_bool.Goals as goal

pub returns-clause-written : goal.returns-clause-written
returns-clause-written c = boolean_written c.args.value
