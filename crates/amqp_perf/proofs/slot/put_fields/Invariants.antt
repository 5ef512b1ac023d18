use Rattle.std.proofs.Common.{take}
use Rattle.amqp_perf.specs.SlotViews.{slots_view}
use Rattle.amqp_perf.proofs.Slots.{FieldsSoFar}
use Rattle.amqp_perf.proofs.slot.put_fields.Given as goal

abbrev pub invariant-loop-i : goal.invariant-loop-i
invariant-loop-i l = FieldsSoFar (slots_view (take l.i l.slots)) l.fields.items l.count l.len
