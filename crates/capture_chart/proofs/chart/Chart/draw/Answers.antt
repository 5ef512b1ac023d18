use Rattle.std.proofs.Common.{◌≡◌, List, ℕ, ap, arith, length, map, subst, ◌∙◌}
use Rattle.std.specs.Prelude.{IfOk}
use Rattle.std.specs.String.{string_bytes}
use Rattle.capture_chart.specs.declared.arrow.Arrow.{Arrow}
use Rattle.capture_chart.specs.Marks.{marking}
use Rattle.capture_chart.specs.Shown.{shown, worded}
use Rattle.capture_chart.specs.Places.{lane_place}
use Rattle.svg_text.specs.Parts.{Draws}
use Rattle.capture_chart.specs.Drawn.{HasArrows, all_lanes, arrows_octets}
use Rattle.capture_chart.proofs.Drawings.{document_drawn}
use Rattle.capture_chart.proofs.chart.Chart.draw.Goals as goal

pub returns-clause-arrows : goal.returns-clause-arrows
returns-clause-arrows c =
    let marks = marking c.args.marks in
    let arrows = c.as_slice-arrows.result.now in
    let lanes = c.in_ok-lanes.lanes.items in
    let height = c.row_place-height.result in
    let long : c.in_ok-lanes.lanes.len ≡ length lanes = omega (arith, c.in_ok-lanes.lanes.ok.0) in
    let ruled : Draws c.in_ok-headed.headed c.in_ok-ruled.ruled (all_lanes height lanes) =
    subst (λ (ls : List ℕ). Draws c.in_ok-headed.headed c.in_ok-ruled.ruled (all_lanes height ls)) c.as_slice.ensures.value c.in_ok-ruled.ensures in
    let drawn : Draws c.in_ok-ruled.ruled c.in_ok-drawn.drawn (arrows_octets marks lanes (map shown arrows) 0 (map worded arrows)) =
    subst (λ (ls : List ℕ). Draws c.in_ok-ruled.ruled c.in_ok-drawn.drawn (arrows_octets marks ls (map shown arrows) 0 (map worded arrows))) c.as_slice-2.ensures.value c.in_ok-drawn.ensures in
    subst (λ (all : List Arrow). IfOk c.finish.result (λ text. HasArrows c.args.title.now marks (map worded all) (string_bytes text))) c.as_slice-arrows.ensures.value
    (document_drawn string_bytes c.finish.result c.args.title.now marks arrows lanes c.lane_place-width.result height
    c.in_ok-started.started c.in_ok-titled.titled c.in_ok-headed.headed c.in_ok-ruled.ruled c.in_ok-drawn.drawn
    c.in_ok-lanes.ensures (c.lane_place-width.ensures ∙ ap lane_place (c.len.ensures ∙ long)) c.row_place-height.ensures
    c.in_ok-started.ensures c.in_ok-titled.ensures c.in_ok-headed.ensures ruled drawn c.finish.ensures.text)
