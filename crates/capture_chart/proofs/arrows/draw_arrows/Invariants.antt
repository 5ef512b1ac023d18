use Rattle.std.proofs.Common.{map, take}
use Rattle.capture_chart.specs.Marks.{marking}
use Rattle.capture_chart.specs.Shown.{shown, worded}
use Rattle.svg_text.specs.Parts.{Draws}
use Rattle.capture_chart.specs.Drawn.{arrows_octets}
use Rattle.capture_chart.proofs.arrows.draw_arrows.Given as goal

abbrev pub invariant-loop-row : goal.invariant-loop-row
invariant-loop-row l = Draws l.fn.drawing l.drawing (arrows_octets (marking l.marks) l.lanes (map shown l.arrows) 0 (map worded (take l.row l.arrows)))
