use Rattle.std.proofs.Common.{◌≡◌, ℕ, ◌&&◌, ◌||◌, take}
use Rattle.std.specs.List.{list_any}
use Rattle.number_groups.specs.Ascending.{has}
use Rattle.number_groups.specs.OctetGroups as octets
use Rattle.trace_events.specs.View.{event_view, link_view}
use Rattle.due_outcomes.specs.Untold.{is_left}
use Rattle.due_outcomes.proofs.untold.add_waiting.Given as goal

abbrev pub invariant-loop-link : goal.invariant-loop-link
invariant-loop-link l = (n : ℕ) → has l.candidates n
    ≡ (has l.fn.candidates n || list_any (λ link. is_left l.before.consumers.now l.before.consumer_links.now (event_view l.event) (link_view link) && octets.is_member l.groups (link_view link).address n) (take l.link-index l.ended))
