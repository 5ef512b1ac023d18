use Rattle.std.proofs.Common.{◌≡◌}
use Rattle.trace_events.specs.Credit.{is_draining}
use Rattle.trace_law.specs.OnStack.{events}
use Rattle.trace_events.specs.View.{link_view}
use Rattle.trace_law.proofs.past.Past.is_draining.Given as goal

abbrev pub invariant-loop-rest : goal.invariant-loop-rest
invariant-loop-rest l = is_draining (link_view l.link) (events l.rest) ≡ is_draining (link_view l.link) (events l.self)
