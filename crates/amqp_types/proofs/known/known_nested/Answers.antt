use Rattle.std.proofs.Common.{arith}
use Rattle.amqp_types.proofs.ReadBefore.{known_counted, known_items}
use Rattle.amqp_types.proofs.known.known_nested.Goals as goal

pub unreachable-requires : goal.unreachable-requires
unreachable-requires c = known_counted 31 c.args.kind c.args.width 0 c.args.bytes.now c.in_default.field-0 c.requires c.in_default.ensures

pub invariant_of-result : goal.invariant_of-result
invariant_of-result c =
    record { filled = (known_items 31 c.args.kind c.args.width 0 c.args.bytes.now ((c.in-Ok.count, c.in-Ok.body.now), c.in-Ok.rest.now) (omega arith) c.requires c.in-Ok.ensures).0 }

pub returns : goal.returns
returns c = (known_items 31 c.args.kind c.args.width 0 c.args.bytes.now ((c.in-Ok.count, c.in-Ok.body.now), c.in-Ok.rest.now) (omega arith) c.requires c.in-Ok.ensures).1
