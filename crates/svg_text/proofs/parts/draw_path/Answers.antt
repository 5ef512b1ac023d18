use Rattle.svg_text.specs.Drawn.{empty_octets}
use Rattle.svg_text.specs.Parts.{path_octets}
use Rattle.svg_text.proofs.Drawings.{if_draws}
use Rattle.svg_text.proofs.parts.draw_path.Goals as goal

pub returns : goal.returns
unfolding empty_octets path_octets
returns c = if_draws c.empty.result c.args.drawing _ c.empty.ensures
