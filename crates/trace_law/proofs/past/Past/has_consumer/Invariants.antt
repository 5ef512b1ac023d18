use Rattle.std.proofs.Common.{◌≡◌}
use Rattle.std.specs.List.{list_any}
use Rattle.trace_events.specs.Link.{links}
use Rattle.trace_events.specs.Address.{is_consumer_of}
use Rattle.trace_law.specs.OnStack.{events}
use Rattle.trace_law.proofs.past.Past.has_consumer.Given as goal

abbrev pub invariant-loop-rest : goal.invariant-loop-rest
invariant-loop-rest l =
    list_any (is_consumer_of l.address (events l.self)) (links (events l.rest)) ≡ list_any (is_consumer_of l.address (events l.self)) (links (events l.self))
