use Rattle.std.proofs.Common.{◌≡◌, ℕ, ◌||◌, take}
use Rattle.std.specs.List.{list_any}
use Rattle.number_groups.specs.Numbers.{is_among}
use Rattle.state_incoming.specs.Touched as law
use Rattle.trace_events.specs.View.{link_view}
use Rattle.state_incoming.proofs.groups.HeldGroups.add_all_left.Given as goal

abbrev pub invariant-loop-link : goal.invariant-loop-link
invariant-loop-link g l = (n : ℕ) → is_among l.touched n
    ≡ (is_among l.fn.touched n || list_any (λ link. law.is_left l.self (g.A.Addresses.has_one l.addresses) n (link_view link)) (take l.link-index l.ended))
