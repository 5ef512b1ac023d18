use Rattle.std.proofs.Common.{◌≡◌, ◌≤◌, ◌+◌, length, ◌&&◌}
use Rattle.std.specs.Prelude.{count_by}
use Rattle.trace_events.specs.Incoming.{incoming_deliveries, is_from}
use Rattle.trace_events.specs.Waiting.{is_undecided, undecided_count}
use Rattle.trace_law.specs.OnStack.{events}
use Rattle.trace_events.specs.View.{link_view}
use Rattle.trace_law.proofs.past.Past.undecided_count.Given as goal

abbrev pub invariant-loop-rest : goal.invariant-loop-rest
invariant-loop-rest l = record {
  counted :
      l.count + count_by (λ d. is_from (link_view l.link) d && is_undecided l.rules d (events l.self)) (incoming_deliveries (events l.rest))
      ≡ undecided_count l.rules (link_view l.link) (events l.self);
  few : l.count + length (events l.rest) ≤ length (events l.self);
}
