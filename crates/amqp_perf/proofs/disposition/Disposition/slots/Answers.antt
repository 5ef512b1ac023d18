use Rattle.std.proofs.Common.{refl}
use Rattle.amqp_perf.proofs.disposition.Disposition.slots.Goals as goal

pub returns-clause-slots : goal.returns-clause-slots
returns-clause-slots c = rw (c.role.ensures.value, c.number.ensures.value, c.uint.ensures.value, c.flag.ensures.value, c.state.ensures.value) refl

pub returns-clause-each : goal.returns-clause-each
returns-clause-each c = (c.role.ensures.can 29, (c.number.ensures.can 29, (c.uint.ensures.can 29, (c.flag.ensures.can 29, (c.state.ensures.can, tt)))))
