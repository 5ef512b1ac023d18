use Rattle.std.proofs.Common.{◌≡◌}
use Rattle.flow_counts.specs.GivenCredit.{received_delivery_count}
use Rattle.trace_events.specs.Credit.{link_events}
use Rattle.trace_law.specs.OnStack.{events}
use Rattle.trace_events.specs.View.{link_view}
use Rattle.trace_law.proofs.past.Past.received_count.Given as goal

abbrev pub invariant-loop-rest : goal.invariant-loop-rest
invariant-loop-rest l =
    received_delivery_count l.count (link_events (link_view l.link) (events l.rest))
    ≡ received_delivery_count (link_view l.link).their_first_count (link_events (link_view l.link) (events l.self))
