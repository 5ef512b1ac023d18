use Rattle.std.proofs.Common.{length, ◌≡◌, ◌++◌, take, drop}
use Rattle.std.specs.List.{concat}
use Rattle.conn_engine.proofs.script.Left.put.Given as goal

abbrev pub invariant-loop-self : goal.invariant-loop-self
invariant-loop-self l = record {
  put : l.out.items ++ take l.count (l.self-inside.octets.now ++ concat l.self-inside.frames.now) ≡ l.fn.out.items ++ take l.fn.count l.fn.self;
  left : drop l.count (l.self-inside.octets.now ++ concat l.self-inside.frames.now) ≡ drop l.fn.count l.fn.self;
}

abbrev pub decreases-loop-self : goal.decreases-loop-self
decreases-loop-self l = length l.self-inside.frames.now
