use Rattle.std.proofs.Common.{◌≡◌, ◌-◌, ◌≤◌, length}
use Rattle.amqp_cuts.specs.Sections.{to_within}
use Rattle.amqp_cuts.proofs.message.find_address.Given as goal

abbrev pub invariant-loop : goal.invariant-loop
invariant-loop g l = (l.at ≤ l.to) × (to_within (g.C.Cuts.octets l.payload) (l.to - l.counter) l.at ≡ to_within (g.C.Cuts.octets l.payload) (length (g.C.Cuts.octets l.payload)) 0)
