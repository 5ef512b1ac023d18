use Rattle.std.proofs.Common.{◌≡◌, map, take}
use Rattle.capture_chart.specs.Shown.{shown}
use Rattle.capture_chart.specs.Places.{lanes_of}
use Rattle.capture_chart.proofs.places.lanes_of.Given as goal

abbrev pub invariant-loop-arrow : goal.invariant-loop-arrow
invariant-loop-arrow l = l.lanes.items ≡ lanes_of (map shown (take l.arrow-index l.arrows))
