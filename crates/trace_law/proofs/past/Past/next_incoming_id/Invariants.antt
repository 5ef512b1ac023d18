use Rattle.std.proofs.Common.{◌≡◌}
use Rattle.flow_counts.specs.GivenWindow.{next_incoming_id}
use Rattle.trace_events.specs.Window.{window_events}
use Rattle.trace_law.specs.OnStack.{events}
use Rattle.trace_law.proofs.past.Past.next_incoming_id.Given as goal

abbrev pub invariant-loop-rest : goal.invariant-loop-rest
invariant-loop-rest l = next_incoming_id l.id (window_events l.session (events l.rest)) ≡ next_incoming_id l.session.their_first_id (window_events l.session (events l.self))
