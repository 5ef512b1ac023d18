use Rattle.std.proofs.Common.{[]}
use Rattle.svg_text.specs.declared.attribute.Attribute.{Attribute}
use Rattle.svg_text.specs.declared.attribute.Name.TheVariants.{Namespace}
use Rattle.svg_text.specs.declared.attribute.Value.TheVariants.{Text}
use Rattle.svg_text.proofs.Octets.{attributes_more, front_more}
use Rattle.svg_text.proofs.Puts.{joined}
use Rattle.svg_text.proofs.tags.put_tag.Goals as goal

pub loop-attribute-preserved : goal.loop-attribute-preserved
loop-attribute-preserved c =
    let none : Attribute = record { name = Namespace; value = Text (record { ref_ptr = (0, 0); now = [] }) } in
    joined _ _ _ _ _ _ c.loop-attribute.invariant c.in_ok-put_attribute.ensures
    (front_more c.args.name.now _ _ _ (attributes_more c.args.attributes.now c.loop-attribute.attribute-index none c.loop-attribute-test.true))
