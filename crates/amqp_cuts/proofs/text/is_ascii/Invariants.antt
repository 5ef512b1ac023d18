use Rattle.std.proofs.Common.{◌-◌, ◌≡◌, ◌≤◌, nat_lt}
use Rattle.std.specs.List.{list_all}
use Rattle.amqp_cuts.specs.Offsets.{window}
use Rattle.amqp_cuts.proofs.text.is_ascii.Given as goal

abbrev pub invariant-loop-place : goal.invariant-loop-place
invariant-loop-place g l = (l.at ≤ l.place) × (l.place ≤ l.to)
    × (list_all (λ b. nat_lt b 128) (window (g.C.Cuts.octets l.payload) l.at l.to) ≡ list_all (λ b. nat_lt b 128) (window (g.C.Cuts.octets l.payload) l.place l.to))

abbrev pub decreases-loop-place : goal.decreases-loop-place
decreases-loop-place g l = l.to - l.place
