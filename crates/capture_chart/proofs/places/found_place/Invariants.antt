use Rattle.std.proofs.Common.{◌≡◌, drop, map}
use Rattle.capture_chart.specs.Shown.{shown}
use Rattle.capture_chart.specs.Places.{found_place}
use Rattle.capture_chart.proofs.places.found_place.Given as goal

abbrev pub invariant-loop-row : goal.invariant-loop-row
invariant-loop-row l = found_place l.lanes l.number 0 (map shown l.arrows) ≡ found_place l.lanes l.number l.row (drop l.row (map shown l.arrows))
