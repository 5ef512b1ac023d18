use Rattle.amqp_types.specs.Form.{kept_form}
use Rattle.amqp_types.specs.View.{view}
use Rattle.amqp_types.proofs.Held.{first_is, others_are}
use Rattle.amqp_types.proofs.ReadBefore.{known_one}
use Rattle.amqp_types.proofs.known.first_of.Goals as goal

pub known_item-requires : goal.known_item-requires
known_item-requires c = known_one (kept_form c.args.form) c.args.count c.args.octets.now c.requires.some c.requires.filled

pub returns-clause-first : goal.returns-clause-first
returns-clause-first c = first_is (kept_form c.args.form) c.args.count c.args.octets.now (view c.known_item.result.0, c.known_item.result.1.now) c.requires.some c.known_item.ensures

pub returns-clause-others : goal.returns-clause-others
returns-clause-others c =
    others_are (kept_form c.args.form) c.args.count c.args.octets.now (view c.known_item.result.0, c.known_item.result.1.now) c.requires.some c.requires.filled c.known_item.ensures
