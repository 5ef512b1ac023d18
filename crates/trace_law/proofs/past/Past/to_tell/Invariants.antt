use Rattle.std.proofs.Common.{◌≡◌}
use Rattle.std.specs.Prelude.{find}
use Rattle.trace_events.specs.Incoming.{incoming_deliveries}
use Rattle.trace_events.specs.Waiting.{is_undecided_of}
use Rattle.trace_events.specs.Settling.{to_tell}
use Rattle.trace_law.specs.OnStack.{events}
use Rattle.trace_law.proofs.past.Past.to_tell.Given as goal

abbrev pub invariant-loop-rest : goal.invariant-loop-rest
invariant-loop-rest l =
    find (is_undecided_of l.rules l.session l.id (events l.self)) (incoming_deliveries (events l.rest))
    ≡ to_tell l.rules l.session l.id (events l.self)
