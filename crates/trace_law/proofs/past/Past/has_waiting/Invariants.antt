use Rattle.std.proofs.Common.{◌≡◌, ◌&&◌, bytes_eq}
use Rattle.std.specs.List.{list_any}
use Rattle.trace_events.specs.Incoming.{address_of, incoming_deliveries}
use Rattle.trace_events.specs.Waiting.{is_waiting, has_waiting}
use Rattle.trace_law.specs.OnStack.{events}
use Rattle.trace_law.proofs.past.Past.has_waiting.Given as goal

abbrev pub invariant-loop-rest : goal.invariant-loop-rest
invariant-loop-rest l =
    list_any (λ d. bytes_eq (address_of d (events l.self)) l.address && is_waiting l.rules d (events l.self)) (incoming_deliveries (events l.rest))
    ≡ has_waiting l.rules l.address (events l.self)
