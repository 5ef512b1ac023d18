use Rattle.std.proofs.Common.{◌≡◌, vec_len}
use Rattle.conn_workers.proofs.opening.slots_of.Given as goal

-- a slot for each connection so far
abbrev pub invariant-loop-number : goal.invariant-loop-number
invariant-loop-number g l = vec_len l.slots ≡ l.number
