use Rattle.std.proofs.Common.{◌≡◌}
use Rattle.flow_counts.specs.Window.{next_id}
use Rattle.trace_events.specs.Window.{window_events}
use Rattle.trace_law.specs.OnStack.{events}
use Rattle.trace_law.proofs.past.Past.next_outgoing_id.Given as goal

abbrev pub invariant-loop-rest : goal.invariant-loop-rest
invariant-loop-rest l = next_id l.id (window_events l.session (events l.rest)) ≡ next_id l.session.our_first_id (window_events l.session (events l.self))
