use Rattle.std.proofs.Common.{◌-◌, sym, arith}
use Rattle.amqp_types.specs.Form.{kept_form}
use Rattle.amqp_types.specs.Simple.{uint_said}
use Rattle.amqp_types.proofs.SimpleValues.{taken_wanted}
use Rattle.amqp_types.proofs.sequence.Items.next_uint.Goals as goal

pub invariant_of-self : goal.invariant_of-self
invariant_of-self c = record {
  filled = (taken_wanted uint_said (kept_form c.args.self.now.form) c.args.self.now.left (c.args.self.now.left - 1) c.args.self.now.rest.now c.in-Some.value c.in-Some.rest.now (omega (arith, c.if-self-ne0.true)) c.args.self.now.filled (sym c.in-Some.ensures)).others;
}

pub returns-in-Some-clause-value : goal.returns-in-Some-clause-value
returns-in-Some-clause-value c = (taken_wanted uint_said (kept_form c.args.self.now.form) c.args.self.now.left (c.args.self.now.left - 1) c.args.self.now.rest.now c.in-Some.value c.in-Some.rest.now (omega (arith, c.if-self-ne0.true)) c.args.self.now.filled (sym c.in-Some.ensures)).value

pub returns-in-Some-clause-left : goal.returns-in-Some-clause-left
returns-in-Some-clause-left c = (taken_wanted uint_said (kept_form c.args.self.now.form) c.args.self.now.left (c.args.self.now.left - 1) c.args.self.now.rest.now c.in-Some.value c.in-Some.rest.now (omega (arith, c.if-self-ne0.true)) c.args.self.now.filled (sym c.in-Some.ensures)).behind
