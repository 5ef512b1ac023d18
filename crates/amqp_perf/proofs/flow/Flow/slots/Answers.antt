use Rattle.std.proofs.Common.{refl}
use Rattle.amqp_perf.proofs.flow.Flow.slots.Goals as goal

pub returns-clause-slots : goal.returns-clause-slots
returns-clause-slots c = rw (c.uint.ensures.value, c.number.ensures.value, c.number-2.ensures.value, c.number-3.ensures.value, c.uint-2.ensures.value, c.uint-3.ensures.value, c.uint-4.ensures.value, c.flag.ensures.value, c.flag-2.ensures.value) refl

pub returns-clause-each : goal.returns-clause-each
returns-clause-each c = (c.uint.ensures.can 29, (c.number.ensures.can 29, (c.number-2.ensures.can 29, (c.number-3.ensures.can 29, (c.uint-2.ensures.can 29, (c.uint-3.ensures.can 29, (c.uint-4.ensures.can 29, (tt, (c.flag.ensures.can 29, (c.flag-2.ensures.can 29, tt))))))))))
