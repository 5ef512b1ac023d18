use Rattle.std.proofs.Common.{◌≡◌}
use Rattle.std.specs.List.{list_any}
use Rattle.trace_events.specs.Incoming.{incoming_deliveries}
use Rattle.trace_events.specs.Due.{is_unsent}
use Rattle.trace_law.specs.OnStack.{events}
use Rattle.trace_events.specs.View.{link_view}
use Rattle.trace_law.proofs.past.Past.has_unsent.Given as goal

abbrev pub invariant-loop-rest : goal.invariant-loop-rest
invariant-loop-rest l =
    list_any (λ d. is_unsent l.rules d (link_view l.link) (events l.self)) (incoming_deliveries (events l.rest))
    ≡ list_any (λ d. is_unsent l.rules d (link_view l.link) (events l.self)) (incoming_deliveries (events l.self))
