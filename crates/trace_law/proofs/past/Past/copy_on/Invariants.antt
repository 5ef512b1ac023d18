use Rattle.std.proofs.Common.{◌≡◌}
use Rattle.trace_law.specs.OnStack.{events}
use Rattle.trace_events.specs.View.{incoming_view, link_view}
use Rattle.trace_events.specs.CopyVerdict.{copy_on}
use Rattle.trace_law.proofs.past.Past.copy_on.Given as goal

abbrev pub invariant-loop-rest : goal.invariant-loop-rest
invariant-loop-rest l =
    copy_on (incoming_view l.delivery) (link_view l.link) (events l.rest) ≡ copy_on (incoming_view l.delivery) (link_view l.link) (events l.self)
