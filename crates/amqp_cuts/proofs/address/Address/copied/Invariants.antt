use Rattle.std.proofs.Common.{◌≡◌, ◌+◌, take, length}
use Rattle.flow_counts.specs.declared.profile.TheConstants.{MAX_ADDRESS}
use Rattle.amqp_cuts.specs.Offsets.{window}
use Rattle.amqp_cuts.proofs.address.Address.copied.Given as goal

abbrev pub invariant-loop-i : goal.invariant-loop-i
invariant-loop-i g l = (length l.octets ≡ MAX_ADDRESS) × (take l.i l.octets ≡ window (g.C.Cuts.octets l.payload) l.at (l.at + l.i))
