use Rattle.std.proofs.Common.{◌≡◌}
use Rattle.trace_events.specs.Outgoing.{pairing}
use Rattle.trace_law.specs.OnStack.{events}
use Rattle.trace_events.specs.View.{incoming_view}
use Rattle.trace_law.proofs.past.Past.pairing.Given as goal

abbrev pub invariant-loop-rest : goal.invariant-loop-rest
invariant-loop-rest l = pairing (incoming_view l.delivery) (events l.rest) ≡ pairing (incoming_view l.delivery) (events l.self)
