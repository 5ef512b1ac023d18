use Rattle.std.proofs.Common.{◌≡◌, ◌-◌}
use Rattle.flow_counts.specs.GivenCredit.{begun_since_given}
use Rattle.trace_events.specs.Credit.{given_credit, link_events}
use Rattle.trace_law.specs.OnStack.{events}
use Rattle.trace_events.specs.View.{link_view}
use Rattle.trace_law.proofs.past.Past.given_credit.Given as goal

abbrev pub invariant-loop-rest : goal.invariant-loop-rest
invariant-loop-rest l = l.left - begun_since_given (link_events (link_view l.link) (events l.rest)) ≡ given_credit (link_view l.link) (events l.self)
