use Rattle.amqp_perf.proofs.SlotValues.{flag_can}
use Rattle.amqp_perf.proofs.slot.Slot.flag.Goals as goal

pub returns-in-Some-clause-can : goal.returns-in-Some-clause-can
returns-in-Some-clause-can c = flag_can c.args.value
