use Rattle.std.proofs.Common.{◌≡◌}
use Rattle.std.specs.List.{list_any}
use Rattle.trace_events.specs.Incoming.{incoming_deliveries}
use Rattle.trace_events.specs.Waiting.{is_undecided_of}
use Rattle.trace_law.specs.OnStack.{events}
use Rattle.trace_law.proofs.past.Past.is_id_in_use.Given as goal

abbrev pub invariant-loop-rest : goal.invariant-loop-rest
invariant-loop-rest l =
    list_any (is_undecided_of l.rules l.session l.id (events l.self)) (incoming_deliveries (events l.rest))
    ≡ list_any (is_undecided_of l.rules l.session l.id (events l.self)) (incoming_deliveries (events l.self))
