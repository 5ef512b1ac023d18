use Rattle.svg_text.specs.declared.element.Element.TheVariants.{Text}
use Rattle.svg_text.specs.Drawn.{start_octets}
use Rattle.svg_text.specs.Parts.{label_octets}
use Rattle.svg_text.proofs.Drawings.{closed, written}
use Rattle.svg_text.proofs.parts.draw_label.Goals as goal

pub returns : goal.returns
unfolding start_octets label_octets
returns c =
    closed c.end.result c.args.drawing c.in_ok-start.field-0 c.in_ok-text.field-0 Text _ _ c.in_ok-start.ensures
    (written c.in_ok-start.field-0 c.in_ok-text.field-0 _ c.in_ok-text.ensures.written) c.end.ensures
