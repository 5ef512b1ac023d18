use Rattle.std.proofs.Common.{◌≡◌}
use Rattle.flow_counts.specs.Credit.{granted_credit}
use Rattle.trace_events.specs.Credit.{link_events}
use Rattle.trace_law.specs.OnStack.{events}
use Rattle.trace_events.specs.View.{link_view}
use Rattle.trace_law.proofs.past.Past.granted_credit.Given as goal

abbrev pub invariant-loop-rest : goal.invariant-loop-rest
invariant-loop-rest l =
    granted_credit (link_view l.link).our_first_count (link_events (link_view l.link) (events l.rest))
    ≡ granted_credit (link_view l.link).our_first_count (link_events (link_view l.link) (events l.self))
