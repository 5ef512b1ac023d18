use Rattle.std.proofs.Common.{arith}
use Rattle.amqp_types.specs.Form.{kept_form}
use Rattle.amqp_types.proofs.ReadBefore.{known_one}
use Rattle.amqp_types.proofs.SimpleValues.{taken}
use Rattle.amqp_types.proofs.sequence.Items.next_simple.Goals as goal

pub simple_item-requires : goal.simple_item-requires
simple_item-requires c = known_one (kept_form c.args.self.now.form) c.args.self.now.left c.args.self.now.rest.now (omega arith) c.args.self.now.filled

pub invariant_of-self : goal.invariant_of-self
invariant_of-self c = record {
  filled = (taken (kept_form c.args.self.now.form) c.args.self.now.left c.in-Some.left c.args.self.now.rest.now c.in-Some-simple_item.simple c.in-Some-simple_item.rest.now (omega (arith, c.in-Some.ensures)) c.args.self.now.filled c.in-Some-simple_item.ensures).others;
}

pub returns-in-Some-simple_item-clause-value : goal.returns-in-Some-simple_item-clause-value
returns-in-Some-simple_item-clause-value c =
    (taken (kept_form c.args.self.now.form) c.args.self.now.left c.in-Some.left c.args.self.now.rest.now c.in-Some-simple_item.simple c.in-Some-simple_item.rest.now (omega (arith, c.in-Some.ensures)) c.args.self.now.filled c.in-Some-simple_item.ensures).value

pub returns-in-Some-simple_item-clause-left : goal.returns-in-Some-simple_item-clause-left
returns-in-Some-simple_item-clause-left c =
    (taken (kept_form c.args.self.now.form) c.args.self.now.left c.in-Some.left c.args.self.now.rest.now c.in-Some-simple_item.simple c.in-Some-simple_item.rest.now (omega (arith, c.in-Some.ensures)) c.args.self.now.filled c.in-Some-simple_item.ensures).behind
