use Rattle.svg_text.specs.declared.element.Element.TheVariants.{Definitions}
use Rattle.svg_text.proofs.Drawings.{closed_some, if_some_then, some_of}
use Rattle.capture_chart.proofs.head.draw_head.Goals as goal

pub returns : goal.returns
returns c =
    if_some_then c.end.result c.args.drawing c.in_ok-styled.styled (some_of _ _ _ c.in_ok-styled.ensures)
    (closed_some c.end.result c.in_ok-styled.styled c.in_ok-defined.defined c.in_ok-marked.marked Definitions _ c.in_ok-defined.ensures c.in_ok-marked.ensures c.end.ensures)
