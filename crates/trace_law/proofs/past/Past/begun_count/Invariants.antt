use Rattle.std.proofs.Common.{◌≡◌, ◌+◌, ◌≤◌, length}
use Rattle.trace_events.specs.Credit.{begun_count}
use Rattle.trace_law.specs.OnStack.{events}
use Rattle.trace_events.specs.View.{link_view}
use Rattle.trace_law.proofs.past.Past.begun_count.Given as goal

abbrev pub invariant-loop-rest : goal.invariant-loop-rest
invariant-loop-rest l = record {
  counted : l.count + begun_count (link_view l.link) (events l.rest) ≡ begun_count (link_view l.link) (events l.self);
  few : l.count + length (events l.rest) ≤ length (events l.self);
}
