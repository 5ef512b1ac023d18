use Rattle.std.proofs.Common.{List, ℕ, ap, sym, ◌∙◌}
use Rattle.capture_chart.specs.Places.{with_lane}
use Rattle.capture_chart.proofs.LaneLemmas.{lanes_more}
use Rattle.capture_chart.proofs.places.lanes_of.Goals as goal

pub loop-arrow-preserved : goal.loop-arrow-preserved
loop-arrow-preserved c =
    c.in_ok-add_lane.ensures
    ∙ ap (λ (t : List ℕ). with_lane t c.arrow-item.result.connection) c.loop-arrow.invariant
    ∙ sym (lanes_more c.args.arrows.now c.loop-arrow.arrow-index c.arrow-item.result c.loop-arrow-test.true c.arrow-item.is)
