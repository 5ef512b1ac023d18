use Rattle.std.proofs.Common.{None, refl}
use Rattle.amqp_perf.specs.declared.table.FieldType.TheVariants as types
use Rattle.amqp_perf.specs.Tables.{optional}
use Rattle.amqp_perf.specs.Usual.{uint_of}
use Rattle.amqp_perf.proofs.UsualFields.{at_end}
use Rattle.amqp_perf.proofs.usual.Usual.uint.Goals as goal

pub returns-then-self-eq0 : goal.returns-then-self-eq0
returns-then-self-eq0 c = at_end (optional types.Uint) uint_of c.args.self.now None c.if-self-eq0.true refl refl
