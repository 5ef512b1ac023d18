use Rattle.std.proofs.Common.{◌≡◌, drop}
use Rattle.capture_chart.specs.Places.{found_lane}
use Rattle.capture_chart.proofs.places.connection_place.Given as goal

abbrev pub invariant-loop-lane : goal.invariant-loop-lane
invariant-loop-lane l = found_lane l.connection 0 l.lanes ≡ found_lane l.connection l.lane (drop l.lane l.lanes)
