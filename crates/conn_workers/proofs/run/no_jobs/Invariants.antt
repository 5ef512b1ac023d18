use Rattle.std.proofs.Common.{◌≡◌, vec_len}
use Rattle.conn_workers.proofs.run.no_jobs.Given as goal

abbrev pub invariant-loop : goal.invariant-loop
invariant-loop g l = vec_len l.jobs ≡ l.counter
