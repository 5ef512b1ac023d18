use Rattle.std.proofs.Common.{◌≡◌, ◌+◌, ◌%◌, ◌^◌, ◌==◌}
use Rattle.std.specs.Prelude.{count_by}
use Rattle.trace_events.specs.Outgoing.{outgoing_deliveries, next_delivery_id}
use Rattle.trace_law.specs.OnStack.{events}
use Rattle.trace_law.proofs.past.Past.next_delivery_id.Given as goal

abbrev pub invariant-loop-rest : goal.invariant-loop-rest
invariant-loop-rest l =
    (l.begun + count_by (λ j. j.link.session.number == l.session.number) (outgoing_deliveries (events l.rest))) % 2 ^ 32
    ≡ next_delivery_id l.session (events l.self)
