use Rattle.std.proofs.Common.{◌∙◌}
use Rattle.amqp_types.proofs.Octets.{octets_found}
use Rattle.amqp_types.proofs.primitive.read_fixed.Goals as goal

pub scalar_in-requires : goal.scalar_in-requires
scalar_in-requires c =
    let octets = octets_found c.width.result c.args.at c.args.bytes.now (c.in_ok-octets.octets.now, c.in_ok-octets.rest.now) c.in_ok-octets.ensures in
    octets.len ∙ c.width.ensures
