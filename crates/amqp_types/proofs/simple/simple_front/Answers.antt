use Rattle.std.proofs.Common.{◌∙◌, Some, ap, sym}
use Rattle.amqp_types.proofs.SimpleValues.{fixed_says, others_say}
use Rattle.amqp_types.proofs.simple.simple_front.Goals as goal

pub returns-in-Fixed : goal.returns-in-Fixed
returns-in-Fixed c =
    c.read_simple.ensures ∙ fixed_says c.args.bytes.now c.in-Some.first.now c.in-Fixed.scalar c.in-Some.data.now c.in-Some.ensures.cases.0 (sym c.in-Some-of.ensures ∙ ap Some c.in-Fixed.is)

pub returns-in_default-code : goal.returns-in_default-code
returns-in_default-code c = others_say c.args.bytes.now c.in-Some.first.now c.in-Some-of.code c.in-Some.data.now c.in-Some.ensures.cases.0 (sym c.in-Some-of.ensures) c.in_default-code.not-Fixed
