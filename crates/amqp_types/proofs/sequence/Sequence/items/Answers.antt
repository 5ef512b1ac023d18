use Rattle.std.proofs.Common.{arith}
use Rattle.amqp_types.proofs.Held.{are_values_of}
use Rattle.amqp_types.proofs.sequence.Sequence.items.Goals as goal

pub returns-clause-few : goal.returns-clause-few
returns-clause-few c = let whole = are_values_of c.args.self.now.count c.args.self.now.body.now c.args.self.now.filled in omega (arith, whole.count)

pub returns-clause-whole : goal.returns-clause-whole
returns-clause-whole c = are_values_of c.args.self.now.count c.args.self.now.body.now c.args.self.now.filled
