use Rattle.std.proofs.Common.{◌≡◌}
use Rattle.trace_events.specs.Incoming.{in_progress}
use Rattle.trace_law.specs.OnStack.{events}
use Rattle.trace_events.specs.View.{link_view}
use Rattle.trace_law.proofs.past.Past.incoming_in_progress.Given as goal

abbrev pub invariant-loop-rest : goal.invariant-loop-rest
invariant-loop-rest l = in_progress (link_view l.link) (events l.rest) ≡ in_progress (link_view l.link) (events l.self)
