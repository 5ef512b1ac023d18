use Rattle.std.proofs.Common.{◌≡◌, ℕ, ◌||◌, nat_eq, take}
use Rattle.std.specs.List.{list_any}
use Rattle.number_groups.specs.Numbers.{is_among}
use Rattle.number_groups.specs.Groups.{is_member}
use Rattle.trace_events.specs.View.{link_view}
use Rattle.state_outgoing.proofs.groups.SentGroups.add_all_of.Given as goal

abbrev pub invariant-loop-link : goal.invariant-loop-link
invariant-loop-link l = (n : ℕ) → is_among l.touched n
    ≡ (is_among l.fn.touched n || list_any (λ link. is_member nat_eq l.self.of_link (link_view link).number n) (take l.link-index l.ended))
