use Rattle.std.proofs.Common.{◌≡◌, ◌-◌}
use Rattle.flow_counts.specs.Credit.{begun_since_grant}
use Rattle.trace_events.specs.Credit.{link_credit, link_events}
use Rattle.trace_law.specs.OnStack.{events}
use Rattle.trace_events.specs.View.{link_view}
use Rattle.trace_law.proofs.past.Past.link_credit.Given as goal

abbrev pub invariant-loop-rest : goal.invariant-loop-rest
invariant-loop-rest l = l.left - begun_since_grant (link_events (link_view l.link) (events l.rest)) ≡ link_credit (link_view l.link) (events l.self)
