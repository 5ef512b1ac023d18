use Rattle.std.proofs.Common.{refl}
use Rattle.amqp_perf.proofs.opening.Open.slots.Goals as goal

pub returns-clause-slots : goal.returns-clause-slots
returns-clause-slots c = rw (c.text.ensures.value, c.uint.ensures.value, c.ushort.ensures.value, c.uint-2.ensures.value) refl

pub returns-clause-each : goal.returns-clause-each
returns-clause-each c = (c.text.ensures.can 29, (tt, (c.uint.ensures.can 29, (c.ushort.ensures.can 29, (c.uint-2.ensures.can 29, tt)))))
