use Rattle.amqp_types.proofs.Written.{uint_written}
use Rattle.amqp_types.proofs.writing.put_uint.Goals as goal

pub returns-then-value-eq0-clause-written : goal.returns-then-value-eq0-clause-written
returns-then-value-eq0-clause-written c = uint_written c.args.value c.ranges.value.fits

pub returns-in-Ok-clause-written : goal.returns-in-Ok-clause-written
returns-in-Ok-clause-written c = uint_written c.args.value c.ranges.value.fits

pub returns-in-Err-clause-written : goal.returns-in-Err-clause-written
returns-in-Err-clause-written c = uint_written c.args.value c.ranges.value.fits
