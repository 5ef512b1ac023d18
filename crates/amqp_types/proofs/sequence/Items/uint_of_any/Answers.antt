use Rattle.std.proofs.Common.{◌-◌, arith}
use Rattle.amqp_types.specs.Form.{kept_form}
use Rattle.amqp_types.specs.Simple.{uint_said}
use Rattle.amqp_types.proofs.ReadBefore.{known_one}
use Rattle.amqp_types.proofs.SimpleValues.{taken_wanted, none_wanted, other_left}
use Rattle.amqp_types.proofs.sequence.Items.uint_of_any.Goals as goal

pub returns-then-self-eq0-clause-value : goal.returns-then-self-eq0-clause-value
returns-then-self-eq0-clause-value c = (none_wanted uint_said (kept_form c.args.self.now.form) c.args.self.now.left c.args.self.now.rest.now (omega (arith, c.if-self-eq0.true))).value

pub returns-then-self-eq0-clause-left : goal.returns-then-self-eq0-clause-left
returns-then-self-eq0-clause-left c = (none_wanted uint_said (kept_form c.args.self.now.form) c.args.self.now.left c.args.self.now.rest.now (omega (arith, c.if-self-eq0.true))).left

pub uint_item-requires : goal.uint_item-requires
uint_item-requires c = known_one (kept_form c.args.self.now.form) c.args.self.now.left c.args.self.now.rest.now (omega (arith, c.if-self-eq0.false)) c.args.self.now.filled

pub returns-in_default-clause-value : goal.returns-in_default-clause-value
returns-in_default-clause-value c = (other_left uint_said (kept_form c.args.self.now.form) c.args.self.now.left c.args.self.now.rest.now (omega (arith, c.if-self-eq0.false)) c.args.self.now.filled c.in_default.ensures).value

pub returns-in_default-clause-left : goal.returns-in_default-clause-left
returns-in_default-clause-left c = (other_left uint_said (kept_form c.args.self.now.form) c.args.self.now.left c.args.self.now.rest.now (omega (arith, c.if-self-eq0.false)) c.args.self.now.filled c.in_default.ensures).left

pub invariant_of-self : goal.invariant_of-self
invariant_of-self c = record {
  filled = (taken_wanted uint_said (kept_form c.args.self.now.form) c.args.self.now.left (c.args.self.now.left - 1) c.args.self.now.rest.now c.in-Some.value c.in-Some.rest.now (omega (arith, c.if-self-eq0.false)) c.args.self.now.filled c.in-Some.ensures).others;
}

pub returns-clause-value : goal.returns-clause-value
returns-clause-value c = (taken_wanted uint_said (kept_form c.args.self.now.form) c.args.self.now.left (c.args.self.now.left - 1) c.args.self.now.rest.now c.in-Some.value c.in-Some.rest.now (omega (arith, c.if-self-eq0.false)) c.args.self.now.filled c.in-Some.ensures).value

pub returns-clause-left : goal.returns-clause-left
returns-clause-left c = (taken_wanted uint_said (kept_form c.args.self.now.form) c.args.self.now.left (c.args.self.now.left - 1) c.args.self.now.rest.now c.in-Some.value c.in-Some.rest.now (omega (arith, c.if-self-eq0.false)) c.args.self.now.filled c.in-Some.ensures).behind
