use Rattle.svg_text.specs.declared.element.Element.TheVariants.{Marker}
use Rattle.svg_text.proofs.Drawings.{closed_some, some_of, written}
use Rattle.capture_chart.proofs.head.draw_marker.Goals as goal

pub returns : goal.returns
returns c =
    closed_some c.end.result c.args.drawing c.in_ok-marked.marked c.in_ok-empty.field-0 Marker _ c.in_ok-marked.ensures
    (some_of c.in_ok-marked.marked c.in_ok-empty.field-0 _ (written c.in_ok-marked.marked c.in_ok-empty.field-0 _ c.in_ok-empty.ensures)) c.end.ensures
