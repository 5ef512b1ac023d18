use Rattle.std.proofs.Common.{◌≡◌, find}
use Rattle.trace_events.specs.Outgoing.{is_on, outgoing_deliveries}
use Rattle.trace_law.specs.OnStack.{events}
use Rattle.trace_events.specs.View.{link_view}
use Rattle.trace_law.proofs.past.Past.last_begun_on.Given as goal

abbrev pub invariant-loop-rest : goal.invariant-loop-rest
invariant-loop-rest l =
    find (is_on (link_view l.link)) (outgoing_deliveries (events l.rest))
    ≡ find (is_on (link_view l.link)) (outgoing_deliveries (events l.self))
