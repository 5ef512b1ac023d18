use Rattle.std.proofs.Common.{◌≡◌}
use Rattle.conn_workers.proofs.run.parts.apart_all.Given as goal

abbrev pub invariant-loop-done : goal.invariant-loop-done
invariant-loop-done g l = l.parts.items ≡ l.seats.items
