use Rattle.std.proofs.Common.{arith}
use Rattle.amqp_types.proofs.Octets.{octets_found}
use Rattle.amqp_types.proofs.primitive.read_sized.Goals as goal

pub size_in-requires : goal.size_in-requires
size_in-requires c =
    let size = octets_found c.octets.result c.args.at c.args.bytes.now (c.in_ok-size.size.now, c.in_ok-size.rest.now) c.in_ok-size.ensures in
    omega (arith, size.len, c.octets.ensures)
