use Rattle.std.proofs.Common.{ap, sym, ◌∙◌}
use Rattle.flow_counts.specs.declared.profile.TheConstants.{MAX_DEPTH}
use Rattle.amqp_types.specs.Reading.{element_at}
use Rattle.amqp_types.specs.Items.{is_read, constructor_in}
use Rattle.amqp_types.specs.Form.{constructor_of}
use Rattle.amqp_types.proofs.ReadBefore.{never_failed, item_of}
use Rattle.amqp_types.proofs.known.known_element.Goals as goal

pub unreachable-requires : goal.unreachable-requires
unreachable-requires c =
    let same = item_of (constructor_in c.args.form.octets.now) (constructor_of c.known_constructor-constructor.result) c.args.bytes.now c.known_constructor-constructor.ensures in
    never_failed (element_at MAX_DEPTH (constructor_of c.known_constructor-constructor.result) 0 c.args.bytes.now) c.in-Err.field-0 (sym (ap is_read same) ∙ c.requires) c.in-Err.ensures

pub returns : goal.returns
returns c =
    let same = item_of (constructor_in c.args.form.octets.now) (constructor_of c.known_constructor-constructor.result) c.args.bytes.now c.known_constructor-constructor.ensures in
    same ∙ c.in-Ok.ensures
