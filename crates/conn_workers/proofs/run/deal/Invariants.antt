use Rattle.std.proofs.Common.{◌≡◌, ◌≤◌, vec_len}
use Rattle.trace_events.specs.Kept.{AreFirst}
use Rattle.conn_workers.proofs.run.deal.Given as goal

abbrev pub invariant-loop-gate : goal.invariant-loop-gate
invariant-loop-gate g l = record {
  begins : AreFirst l.gates.items g.J.Origin.gates;
  some : vec_len l.gates ≤ vec_len l.fn.gates;
  jobs : vec_len l.jobs ≡ l.workers;
}

abbrev pub decreases-loop-gate : goal.decreases-loop-gate
decreases-loop-gate g l = vec_len l.gates
