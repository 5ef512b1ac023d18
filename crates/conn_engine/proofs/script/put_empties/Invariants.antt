use Rattle.std.proofs.Common.{◌≡◌, ◌++◌}
use Rattle.conn_engine.specs.Scripts.{empty_frames}
use Rattle.conn_engine.proofs.script.put_empties.Given as goal

abbrev pub invariant-loop : goal.invariant-loop
invariant-loop l = l.out.items ≡ l.fn.out.items ++ empty_frames l.counter
