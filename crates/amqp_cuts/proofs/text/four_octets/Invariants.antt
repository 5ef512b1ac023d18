use Rattle.std.proofs.Common.{◌≡◌, ◌+◌, take, length}
use Rattle.amqp_cuts.specs.Offsets.{window}
use Rattle.amqp_cuts.proofs.text.four_octets.Given as goal

abbrev pub invariant-loop-i : goal.invariant-loop-i
invariant-loop-i g l = (length l.octets ≡ 4) × (take l.i l.octets ≡ window (g.C.Cuts.octets l.payload) l.at (l.at + l.i))
