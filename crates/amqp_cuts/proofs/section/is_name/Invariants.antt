use Rattle.std.proofs.Common.{◌≡◌, ◌+◌, ◌-◌, take, length}
use Rattle.amqp_cuts.specs.Offsets.{window}
use Rattle.amqp_cuts.proofs.section.is_name.Given as goal

abbrev pub invariant-loop-i : goal.invariant-loop-i
invariant-loop-i g l = (l.to - l.at ≡ length l.name) × (take l.i l.name ≡ window (g.C.Cuts.octets l.payload) l.at (l.at + l.i))
