use Rattle.std.proofs.Common.{◌-◌}
use Rattle.amqp_types.specs.Items.{ArePassed}
use Rattle.amqp_types.proofs.reading.pass_plains.Given as goal

abbrev pub invariant-loop-passed : goal.invariant-loop-passed
invariant-loop-passed l = ArePassed l.count l.bytes (l.count - l.passed) l.rest
