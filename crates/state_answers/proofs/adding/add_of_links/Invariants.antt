use Rattle.std.proofs.Common.{◌≡◌, ℕ, ◌||◌, nat_eq, take}
use Rattle.std.specs.List.{list_any}
use Rattle.number_groups.specs.Ascending.{has}
use Rattle.number_groups.specs.Groups.{is_member}
use Rattle.trace_events.specs.View.{link_view}
use Rattle.state_answers.proofs.adding.add_of_links.Given as goal

abbrev pub invariant-loop-link : goal.invariant-loop-link
invariant-loop-link l = (n : ℕ) → has l.candidates n
    ≡ (has l.fn.candidates n || list_any (λ link. is_member nat_eq l.groups (link_view link).number n) (take l.link-index l.links))
