use Rattle.std.proofs.Common.{ap, ◌∙◌}
use Rattle.std.proofs.lemmas.Str.{chars-IsAscii}
use Rattle.svg_text.specs.Drawn.{text_octets}
use Rattle.svg_text.proofs.Puts.{told_as}
use Rattle.svg_text.proofs.tags.put_number.Goals as goal

pub returns : goal.returns
returns c = told_as _ _ _ _ _ c.put_text.ensures (ap text_octets (chars-IsAscii c.format.result.now c.format.ensures.ascii ∙ c.format.ensures.text))
