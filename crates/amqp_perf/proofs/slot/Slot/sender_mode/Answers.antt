use Rattle.amqp_perf.proofs.SlotValues.{sender_mode_can}
use Rattle.amqp_perf.proofs.slot.Slot.sender_mode.Goals as goal

pub returns-in-Some-Unsettled-clause-can : goal.returns-in-Some-Unsettled-clause-can
returns-in-Some-Unsettled-clause-can c = sender_mode_can c.args.mode

pub returns-in-Some-Settled-clause-can : goal.returns-in-Some-Settled-clause-can
returns-in-Some-Settled-clause-can c = sender_mode_can c.args.mode

pub returns-in-Some-Mixed-clause-can : goal.returns-in-Some-Mixed-clause-can
returns-in-Some-Mixed-clause-can c = sender_mode_can c.args.mode
