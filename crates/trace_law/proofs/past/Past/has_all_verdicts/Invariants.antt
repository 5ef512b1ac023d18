use Rattle.std.proofs.Common.{◌≡◌}
use Rattle.std.specs.List.{list_any}
use Rattle.trace_events.specs.Link.{links}
use Rattle.trace_law.specs.OnStack.{events}
use Rattle.trace_events.specs.View.{incoming_view}
use Rattle.trace_events.specs.CopyVerdict.{awaits_verdict}
use Rattle.trace_law.proofs.past.Past.has_all_verdicts.Given as goal

abbrev pub invariant-loop-rest : goal.invariant-loop-rest
invariant-loop-rest l =
    list_any (awaits_verdict l.rules (incoming_view l.delivery) (events l.self)) (links (events l.rest))
    ≡ list_any (awaits_verdict l.rules (incoming_view l.delivery) (events l.self)) (links (events l.self))
