use Rattle.amqp_types.specs.Form.{constructor_of}
use Rattle.amqp_types.proofs.ReadBefore.{known_form, form_known}
use Rattle.amqp_types.proofs.known.known_constructor.Goals as goal

pub unreachable-requires : goal.unreachable-requires
unreachable-requires c = known_form c.args.form.octets.now c.in_default.field-0 c.args.form.read c.in_default.ensures

pub returns : goal.returns
returns c = form_known c.args.form.octets.now (constructor_of c.in-Ok.constructor, c.in-Ok.field-0-1.now) c.args.form.read c.in-Ok.ensures
