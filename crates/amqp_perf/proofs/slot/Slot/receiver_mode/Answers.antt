use Rattle.amqp_perf.proofs.SlotValues.{receiver_mode_can}
use Rattle.amqp_perf.proofs.slot.Slot.receiver_mode.Goals as goal

pub returns-in-Some-First-clause-can : goal.returns-in-Some-First-clause-can
returns-in-Some-First-clause-can c = receiver_mode_can c.args.mode

pub returns-in-Some-Second-clause-can : goal.returns-in-Some-Second-clause-can
returns-in-Some-Second-clause-can c = receiver_mode_can c.args.mode
