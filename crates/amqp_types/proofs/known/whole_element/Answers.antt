use Rattle.std.proofs.Common.{[], sym}
use Rattle.amqp_types.specs.Reading.{constructor_at, element_at}
use Rattle.flow_counts.specs.declared.profile.TheConstants.{MAX_DEPTH}
use Rattle.amqp_types.specs.Form.{constructor_of}
use Rattle.amqp_types.specs.View.{view}
use Rattle.amqp_types.proofs.Steps.{never_both}
use Rattle.amqp_types.proofs.Held.{whole_parts, whole_element_is, whole_element_read}
use Rattle.amqp_types.proofs.known.whole_element.Goals as goal

pub unreachable-requires : goal.unreachable-requires
unreachable-requires c =
    let one = whole_parts c.args.constructor.now c.args.octets.now c.requires in
    never_both (constructor_at MAX_DEPTH 0 c.args.constructor.now) (one.c, []) c.in_default.field-0 one.read c.in_default.ensures

pub unreachable-requires-in-Err : goal.unreachable-requires-in-Err
unreachable-requires-in-Err c =
    let one = whole_element_read c.args.constructor.now c.args.octets.now (constructor_of c.in-Ok.constructor, c.in-Ok.field-0-1.now) c.requires c.in-Ok.ensures in
    never_both (element_at MAX_DEPTH (constructor_of c.in-Ok.constructor) 0 c.args.octets.now) (one.0, []) c.in-Err.field-0 one.1 c.in-Err.ensures

pub returns-clause-same : goal.returns-clause-same
returns-clause-same c =
    let x = c.in-Ok-read_element in
    sym (whole_element_is c.args.constructor.now c.args.octets.now (constructor_of c.in-Ok.constructor, c.in-Ok.field-0-1.now) (view x.value, x.field-0-1.now) c.requires c.in-Ok.ensures x.ensures).0

pub returns-clause-whole : goal.returns-clause-whole
returns-clause-whole c =
    let x = c.in-Ok-read_element in
    (whole_element_is c.args.constructor.now c.args.octets.now (constructor_of c.in-Ok.constructor, c.in-Ok.field-0-1.now) (view x.value, x.field-0-1.now) c.requires c.in-Ok.ensures x.ensures).1

pub returns-clause-element : goal.returns-clause-element
returns-clause-element c =
    let x = c.in-Ok-read_element in
    let whole = whole_element_is c.args.constructor.now c.args.octets.now (constructor_of c.in-Ok.constructor, c.in-Ok.field-0-1.now) (view x.value, x.field-0-1.now) c.requires c.in-Ok.ensures x.ensures in
    (constructor_of c.in-Ok.constructor, whole.2, whole.3)
