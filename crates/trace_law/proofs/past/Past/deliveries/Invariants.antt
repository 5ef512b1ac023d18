use Rattle.std.proofs.Common.{◌≡◌, ◌≤◌, ◌+◌, length}
use Rattle.std.specs.Prelude.{count_by}
use Rattle.trace_events.specs.Credit.{begins_outgoing}
use Rattle.trace_law.specs.OnStack.{events}
use Rattle.trace_law.proofs.past.Past.deliveries.Given as goal

abbrev pub invariant-loop-rest : goal.invariant-loop-rest
invariant-loop-rest l = record {
  counted : l.count + count_by begins_outgoing (events l.rest) ≡ count_by begins_outgoing (events l.self);
  few : l.count + length (events l.rest) ≤ length (events l.self);
}
