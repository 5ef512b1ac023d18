use Rattle.std.proofs.Common.{◌≡◌, ◌-◌}
use Rattle.flow_counts.specs.GivenWindow.{received_since_flow}
use Rattle.trace_events.specs.Window.{given_window, window_events}
use Rattle.trace_law.specs.OnStack.{events}
use Rattle.trace_law.proofs.past.Past.given_window.Given as goal

abbrev pub invariant-loop-rest : goal.invariant-loop-rest
invariant-loop-rest l = l.left - received_since_flow (window_events l.session (events l.rest)) ≡ given_window l.session (events l.self)
