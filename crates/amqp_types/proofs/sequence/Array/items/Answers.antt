use Rattle.std.proofs.Common.{arith}
use Rattle.amqp_types.specs.Form.{kept_form}
use Rattle.amqp_types.proofs.Held.{are_items_of}
use Rattle.amqp_types.proofs.sequence.Array.items.Goals as goal

pub returns-clause-few : goal.returns-clause-few
returns-clause-few c =
    let whole = are_items_of (kept_form c.args.self.now.form) c.args.self.now.count c.args.self.now.body.now c.args.self.now.filled in
    omega (arith, whole.count, c.args.self.now.few)

pub returns-clause-whole : goal.returns-clause-whole
returns-clause-whole c = are_items_of (kept_form c.args.self.now.form) c.args.self.now.count c.args.self.now.body.now c.args.self.now.filled
