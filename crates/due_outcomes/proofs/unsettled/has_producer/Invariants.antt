use Rattle.std.proofs.Common.{◌≡◌, false, ◌||◌, take}
use Rattle.std.specs.List.{list_any}
use Rattle.trace_events.specs.Link.{is_producer}
use Rattle.trace_events.specs.View.{link_view}
use Rattle.due_outcomes.proofs.unsettled.has_producer.Given as goal

abbrev pub invariant-loop-link : goal.invariant-loop-link
invariant-loop-link l = l.has ≡ false || list_any (λ link. is_producer (link_view link)) (take l.link-index l.links)
