use Rattle.std.proofs.Common.{sym}
use Rattle.amqp_types.specs.View.{view}
use Rattle.amqp_types.proofs.Held.{whole_is, whole_octets, whole_value}
use Rattle.amqp_types.proofs.ReadBefore.{known_whole}
use Rattle.amqp_types.proofs.known.whole.Goals as goal

pub known_value-requires : goal.known_value-requires
known_value-requires c = known_whole c.args.octets.now c.requires

pub returns-clause-same : goal.returns-clause-same
returns-clause-same c = sym (whole_is c.args.octets.now (view c.known_value.result.0, c.known_value.result.1.now) c.known_value.ensures)

pub returns-clause-whole : goal.returns-clause-whole
returns-clause-whole c = whole_octets c.args.octets.now (view c.known_value.result.0, c.known_value.result.1.now) c.requires c.known_value.ensures

pub returns-clause-value : goal.returns-clause-value
returns-clause-value c = whole_value c.args.octets.now (view c.known_value.result.0, c.known_value.result.1.now) c.requires c.known_value.ensures
