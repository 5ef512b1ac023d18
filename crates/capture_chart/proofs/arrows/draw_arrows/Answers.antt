use Rattle.std.proofs.Common.{map}
use Rattle.capture_chart.specs.Marks.{marking}
use Rattle.capture_chart.specs.Shown.{shown}
use Rattle.svg_text.proofs.Drawings.{draws_nothing}
use Rattle.capture_chart.proofs.Drawings.{all_arrows, arrows_more}
use Rattle.capture_chart.proofs.arrows.draw_arrows.Goals as goal

pub loop-row-init : goal.loop-row-init
loop-row-init c = draws_nothing c.args.drawing

pub loop-row-preserved : goal.loop-row-preserved
loop-row-preserved c =
    arrows_more (marking c.args.marks) c.args.lanes.now (map shown c.args.arrows.now) c.args.drawing c.loop-row.drawing c.in_ok-drawing.drawing c.args.arrows.now c.loop-row.row
    c.index-arrows-row.result c.place_at-place.result c.loop-row-test.true c.index-arrows-row.is c.place_at-place.ensures c.loop-row.invariant c.in_ok-drawing.ensures

pub returns : goal.returns
returns c =
    all_arrows (marking c.args.marks) c.args.lanes.now (map shown c.args.arrows.now) c.args.drawing c.loop-row.drawing c.args.arrows.now c.loop-row.row c.loop-row-test.false
    c.loop-row.invariant
