use Rattle.std.proofs.Common.{◌≡◌, vec_len}
use Rattle.conn_workers.proofs.opening.polls_at.Given as goal

-- a poll for each worker so far
abbrev pub invariant-loop-worker : goal.invariant-loop-worker
invariant-loop-worker g l = vec_len l.polls ≡ l.worker
