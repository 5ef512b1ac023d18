use Rattle.std.proofs.Common.{◌≡◌}
use Rattle.flow_counts.specs.Window.{granted_window}
use Rattle.trace_events.specs.Window.{window_events}
use Rattle.trace_law.specs.OnStack.{events}
use Rattle.trace_law.proofs.past.Past.granted_window.Given as goal

abbrev pub invariant-loop-rest : goal.invariant-loop-rest
invariant-loop-rest l =
    granted_window l.session.our_first_id l.session.their_window (window_events l.session (events l.rest))
    ≡ granted_window l.session.our_first_id l.session.their_window (window_events l.session (events l.self))
