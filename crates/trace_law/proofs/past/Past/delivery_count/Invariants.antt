use Rattle.std.proofs.Common.{◌≡◌, ◌+◌}
use Rattle.flow_counts.specs.Serial.{serial_add}
use Rattle.flow_counts.specs.Credit.{told_count, begun_since_told}
use Rattle.trace_events.specs.Credit.{delivery_count, link_events}
use Rattle.trace_law.specs.OnStack.{events}
use Rattle.trace_events.specs.View.{link_view}
use Rattle.trace_law.proofs.past.Past.delivery_count.Given as goal

abbrev pub invariant-loop-rest : goal.invariant-loop-rest
invariant-loop-rest l =
    serial_add (told_count (link_view l.link).our_first_count (link_events (link_view l.link) (events l.rest))) (l.begun + begun_since_told (link_events (link_view l.link) (events l.rest)))
    ≡ delivery_count (link_view l.link) (events l.self)
