use Rattle.svg_text.proofs.Drawings.{closed, written}
use Rattle.svg_text.proofs.parts.draw_words.Goals as goal

pub returns : goal.returns
returns c =
    closed c.end.result c.args.drawing c.in_ok-start.field-0 c.in_ok-text.field-0 c.args.element _ _ c.in_ok-start.ensures
    (written c.in_ok-start.field-0 c.in_ok-text.field-0 _ c.in_ok-text.ensures.written) c.end.ensures
