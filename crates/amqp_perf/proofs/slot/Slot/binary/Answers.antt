use Rattle.std.specs.Option.{option_copied}
use Rattle.amqp_perf.proofs.SlotValues.{binary_can}
use Rattle.amqp_perf.proofs.slot.Slot.binary.Goals as goal

pub returns-in-Some-clause-can : goal.returns-in-Some-clause-can
returns-in-Some-clause-can c = binary_can (option_copied c.args.octets) c.requires
