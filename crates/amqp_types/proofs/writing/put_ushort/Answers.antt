use Rattle.amqp_types.proofs.Written.{ushort_written}
use Rattle.amqp_types.proofs.writing.put_ushort.Goals as goal

pub returns-clause-written : goal.returns-clause-written
returns-clause-written c = ushort_written c.args.value c.ranges.value.fits
