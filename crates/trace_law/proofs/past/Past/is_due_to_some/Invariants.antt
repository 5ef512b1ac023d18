use Rattle.std.proofs.Common.{◌≡◌}
use Rattle.std.specs.List.{list_any}
use Rattle.trace_events.specs.Link.{links}
use Rattle.trace_events.specs.Due.{is_due}
use Rattle.trace_law.specs.OnStack.{events}
use Rattle.trace_events.specs.View.{incoming_view}
use Rattle.trace_law.proofs.past.Past.is_due_to_some.Given as goal

abbrev pub invariant-loop-rest : goal.invariant-loop-rest
invariant-loop-rest l =
    list_any (λ m. is_due l.rules (incoming_view l.delivery) m (events l.self)) (links (events l.rest))
    ≡ list_any (λ m. is_due l.rules (incoming_view l.delivery) m (events l.self)) (links (events l.self))
