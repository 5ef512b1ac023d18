use Rattle.std.proofs.Common.{Some, None, ap}
use Rattle.amqp_types.specs.Simple.{boolean_said}
use Rattle.amqp_types.proofs.SimpleValues.{front_says}
use Rattle.amqp_types.proofs.simple.boolean_front.Goals as goal

pub returns-in-Some-Null-default : goal.returns-in-Some-Null-default
returns-in-Some-Null-default c =
    let front = c.in-Some in
    front_says boolean_said c.args.bytes.now front.first.now c.in-Some-boolean_scalar.scalar front.data.now c.in-Some-Null-default.field-0-0 c.in-Some-Null-default.rest.now None front.ensures.cases.0 c.in-Some-boolean_scalar.ensures c.in-Some-Null-default.ensures (ap boolean_said c.in-Some-Null-default.field-0-0-is)

pub returns-in-Some-Boolean-default : goal.returns-in-Some-Boolean-default
returns-in-Some-Boolean-default c =
    let front = c.in-Some in
    front_says boolean_said c.args.bytes.now front.first.now c.in-Some-boolean_scalar.scalar front.data.now c.in-Some-Boolean-default.field-0-0 c.in-Some-Boolean-default.rest.now (Some c.in-Some-Boolean-default.value) front.ensures.cases.0 c.in-Some-boolean_scalar.ensures c.in-Some-Boolean-default.ensures (ap boolean_said c.in-Some-Boolean-default.field-0-0-is)
