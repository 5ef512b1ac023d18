use Rattle.std.proofs.Common.{◌≡◌, ◌≤◌, ◌+◌, length}
use Rattle.std.specs.Prelude.{count_by}
use Rattle.trace_events.specs.Verdict.{tells_outcome}
use Rattle.trace_law.specs.OnStack.{events}
use Rattle.trace_law.proofs.past.Past.outcomes.Given as goal

abbrev pub invariant-loop-rest : goal.invariant-loop-rest
invariant-loop-rest l = record {
  counted : l.count + count_by tells_outcome (events l.rest) ≡ count_by tells_outcome (events l.self);
  few : l.count + length (events l.rest) ≤ length (events l.self);
}
