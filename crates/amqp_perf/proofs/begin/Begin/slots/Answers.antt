use Rattle.std.proofs.Common.{refl}
use Rattle.amqp_perf.proofs.begin.Begin.slots.Goals as goal

pub returns-clause-slots : goal.returns-clause-slots
returns-clause-slots c = rw (c.ushort.ensures.value, c.number.ensures.value, c.number-2.ensures.value, c.number-3.ensures.value, c.uint.ensures.value) refl

pub returns-clause-each : goal.returns-clause-each
returns-clause-each c = (c.ushort.ensures.can 29, (c.number.ensures.can 29, (c.number-2.ensures.can 29, (c.number-3.ensures.can 29, (c.uint.ensures.can 29, tt)))))
