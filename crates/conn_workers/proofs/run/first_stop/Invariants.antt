use Rattle.std.proofs.Common.{◌≡◌, drop}
use Rattle.conn_workers.specs.Faults.{first_stop}
use Rattle.conn_workers.proofs.run.first_stop.Given as goal

abbrev pub invariant-loop-result : goal.invariant-loop-result
invariant-loop-result g l = first_stop l.results ≡ first_stop (drop l.result-index l.results)
