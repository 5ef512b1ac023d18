use Rattle.std.proofs.Common.{Some, None, ap}
use Rattle.amqp_types.specs.Simple.{uint_said}
use Rattle.amqp_types.proofs.SimpleValues.{front_says}
use Rattle.amqp_types.proofs.simple.uint_front.Goals as goal

pub returns-in-Some-Null-default : goal.returns-in-Some-Null-default
returns-in-Some-Null-default c =
    let front = c.in-Some in
    front_says uint_said c.args.bytes.now front.first.now c.in-Some-uint_scalar.scalar front.data.now c.in-Some-Null-default.field-0-0 c.in-Some-Null-default.rest.now None front.ensures.cases.0 c.in-Some-uint_scalar.ensures c.in-Some-Null-default.ensures (ap uint_said c.in-Some-Null-default.field-0-0-is)

pub returns-in-Some-Uint-default : goal.returns-in-Some-Uint-default
returns-in-Some-Uint-default c =
    let front = c.in-Some in
    front_says uint_said c.args.bytes.now front.first.now c.in-Some-uint_scalar.scalar front.data.now c.in-Some-Uint-default.field-0-0 c.in-Some-Uint-default.rest.now (Some c.in-Some-Uint-default.number) front.ensures.cases.0 c.in-Some-uint_scalar.ensures c.in-Some-Uint-default.ensures (ap uint_said c.in-Some-Uint-default.field-0-0-is)
