use Rattle.svg_text.specs.Drawn.{empty_octets}
use Rattle.svg_text.specs.Parts.{line_octets}
use Rattle.svg_text.proofs.Drawings.{if_draws}
use Rattle.svg_text.proofs.parts.draw_line.Goals as goal

pub returns : goal.returns
unfolding empty_octets line_octets
returns c = if_draws c.empty.result c.args.drawing _ c.empty.ensures
