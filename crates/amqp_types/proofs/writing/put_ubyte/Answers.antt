use Rattle.amqp_types.proofs.Written.{ubyte_written}
use Rattle.amqp_types.proofs.writing.put_ubyte.Goals as goal

pub returns-clause-written : goal.returns-clause-written
returns-clause-written c = ubyte_written c.args.value
