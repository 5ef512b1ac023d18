use Rattle.std.proofs.Common.{◌≡◌, ◌≤◌, length}
use Rattle.trace_events.specs.Due.{is_due}
use Rattle.trace_law.specs.OnStack.{events}
use Rattle.trace_events.specs.View.{incoming_view, link_view}
use Rattle.trace_law.proofs.past.Past.is_due.Given as goal

abbrev pub invariant-loop-rest : goal.invariant-loop-rest
invariant-loop-rest l = record {
  same : is_due l.rules (incoming_view l.delivery) (link_view l.link) (events l.rest) ≡ is_due l.rules (incoming_view l.delivery) (link_view l.link) (events l.self);
  few : length (events l.rest) ≤ length (events l.self);
}
