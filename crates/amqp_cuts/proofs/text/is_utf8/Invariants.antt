use Rattle.std.proofs.Common.{◌-◌, ◌≡◌, ◌≤◌}
use Rattle.std.specs.Str.{is_utf8}
use Rattle.amqp_cuts.specs.Offsets.{window}
use Rattle.amqp_cuts.proofs.text.is_utf8.Given as goal

abbrev pub invariant-loop-place : goal.invariant-loop-place
invariant-loop-place g l = (l.at ≤ l.place) × (l.place ≤ l.to)
    × (is_utf8 (window (g.C.Cuts.octets l.payload) l.at l.to) ≡ is_utf8 (window (g.C.Cuts.octets l.payload) l.place l.to))

abbrev pub decreases-loop-place : goal.decreases-loop-place
decreases-loop-place g l = l.to - l.place
