use Rattle.std.proofs.Common.{sym, ◌∙◌}
use Rattle.std.proofs.lemmas.Bool.{eq-eqb, ne_eqb}
use Rattle.capture_chart.proofs.LaneLemmas.{chosen_false, chosen_true, lane_here, no_lane}
use Rattle.capture_chart.proofs.places.connection_place.Goals as goal

pub loop-lane-preserved : goal.loop-lane-preserved
loop-lane-preserved c =
    c.loop-lane.invariant ∙ lane_here c.args.connection c.args.lanes.now c.loop-lane.lane c.loop-lane-test.true
    ∙ chosen_false _ _ _ (ne_eqb _ _ c.if-other-connection.false)

pub returns-then-other-connection : goal.returns-then-other-connection
returns-then-other-connection c =
    c.lane_place.ensures
    ∙ sym (c.loop-lane.invariant ∙ lane_here c.args.connection c.args.lanes.now c.loop-lane.lane c.loop-lane-test.true
    ∙ chosen_true _ _ _ (eq-eqb _ _ c.if-other-connection.true))

pub returns : goal.returns
returns c = sym (c.loop-lane.invariant ∙ no_lane c.args.connection c.args.lanes.now c.loop-lane.lane c.loop-lane-test.false)
