use Rattle.std.proofs.Common.{◌≡◌, ◌++◌, drop}
use Rattle.std.specs.List.{concat}
use Rattle.conn_engine.specs.Scripts.{laced}
use Rattle.conn_engine.proofs.script.Script.octets.Given as goal

abbrev pub invariant-loop-own : goal.invariant-loop-own
invariant-loop-own l = l.octets.items ++ laced (drop l.own-index l.self.owns.items) l.left ≡ laced l.self.owns.items (concat l.frames)
