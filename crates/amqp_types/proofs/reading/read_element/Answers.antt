use Rattle.std.proofs.Common.{◌-◌, ◌<◌, refl, ◌∙◌, arith}
use Rattle.std.proofs.lemmas.Result.{err_from_is_err_and}
use Rattle.amqp_types.specs.Form.{constructor_of}
use Rattle.amqp_types.specs.View.{part_of}
use Rattle.amqp_types.proofs.Values.{data_shorter}
use Rattle.amqp_types.proofs.Levels.{element_fault, element_is}
use Rattle.amqp_types.proofs.Held.{element_held}
use Rattle.amqp_types.proofs.reading.read_element.Goals as goal
use Rattle.amqp_types.proofs.reading.read_element.Goals.{in-None, in-Some}

pub returns-in_err-content : goal.returns-in_err-content
returns-in_err-content c =
    let p = err_from_is_err_and c.from_residual.result c.from_residual.ensures.1 in
    rw (p.1, p.2) (element_fault c.args.levels (constructor_of c.args.constructor) c.args.at c.args.bytes.now c.in_err-content.field-0.0 c.requires.tags c.in_err-content.ensures)

pub slice_bounds-raw-count : goal.slice_bounds-raw-count
slice_bounds-raw-count c =
    let content = c.in_ok-content in
    let some : 0 < c.args.levels - c.args.constructor.tags = omega (arith, c.requires.tags) in
    data_shorter (c.args.levels - c.args.constructor.tags) c.args.constructor.code c.args.at c.args.bytes.now (part_of content.content, content.rest.now) content.ensures

pub invariant_of-content : goal.invariant_of-content
invariant_of-content c =
    let content = c.in_ok-content in
    let tag = c.in-Some.tag in
    let inner = c.args.constructor.inner tag c.in-Some.is in
    record {
      descriptor_read = tag.descriptor_read;
      data_read = element_held c.args.levels c.args.constructor.tags c.args.constructor.code c.args.at tag.constructor.now c.args.bytes.now (part_of content.content, content.rest.now) c.requires.tags c.requires.levels inner content.ensures;
    }

pub returns : goal.returns
returns c =
    let content = c.in_ok-content in
    let said = element_is c.args.levels (constructor_of c.args.constructor) c.args.at c.args.bytes.now (part_of content.content, content.rest.now) c.requires.tags content.ensures in
    elim c.match-constructor.branch [
      | in-None w ↦ said ∙ rw (w.in-None.is, w.content-is) refl
      | in-Some w ↦ said ∙ rw (w.in-Some.is, w.content-is) refl
    ]
