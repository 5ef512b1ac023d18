use Rattle.std.proofs.Common.{refl}
use Rattle.amqp_perf.proofs.transfer.Transfer.slots.Goals as goal

pub returns-clause-slots : goal.returns-clause-slots
returns-clause-slots c = rw (c.number.ensures.value, c.uint.ensures.value, c.binary.ensures.value, c.uint-2.ensures.value, c.flag.ensures.value, c.flag-2.ensures.value, c.flag-3.ensures.value, c.flag-4.ensures.value) refl

pub returns-clause-each : goal.returns-clause-each
returns-clause-each c = (c.number.ensures.can 29, (c.uint.ensures.can 29, (c.binary.ensures.can 29, (c.uint-2.ensures.can 29, (c.flag.ensures.can 29, (c.flag-2.ensures.can 29, (tt, (tt, (c.flag-3.ensures.can 29, (c.flag-4.ensures.can 29, tt))))))))))
