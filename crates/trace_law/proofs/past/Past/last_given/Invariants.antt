use Rattle.std.proofs.Common.{◌≡◌}
use Rattle.flow_counts.specs.GivenCredit.{last_given}
use Rattle.trace_events.specs.Credit.{link_events}
use Rattle.trace_law.specs.OnStack.{events}
use Rattle.trace_events.specs.View.{link_view}
use Rattle.trace_law.proofs.past.Past.last_given.Given as goal

abbrev pub invariant-loop-rest : goal.invariant-loop-rest
invariant-loop-rest l = last_given (link_events (link_view l.link) (events l.rest)) ≡ last_given (link_events (link_view l.link) (events l.self))
