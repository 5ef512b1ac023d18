use Rattle.std.proofs.Common.{◌++◌, take}
use Rattle.std.specs.Prelude.{codes}
use Rattle.capture_chart.specs.declared.places.TheConstants.{ROUTER}
use Rattle.svg_text.specs.Parts.{Draws}
use Rattle.capture_chart.specs.Drawn.{lane_octets, lanes_octets}
use Rattle.capture_chart.proofs.lanes.draw_lanes.Given as goal

abbrev pub invariant-loop-lane : goal.invariant-loop-lane
invariant-loop-lane l = Draws l.fn.drawing l.drawing (lane_octets l.bottom ROUTER (codes "router") ++ lanes_octets l.bottom 0 (take l.lane l.lanes))
