use Rattle.std.proofs.Common.{◌≡◌, ℕ, true, ◌&&◌, not, length, if◌then◌else◌}
use Rattle.number_groups.specs.Numbers.{is_among}
use Rattle.trace_events.specs.View.{event_view}
use Rattle.state_incoming.specs.Grouped.{AreGrouped}
use Rattle.state_incoming.specs.HeldTables.{held_in}
use Rattle.state_incoming.proofs.TouchedAll.{on}
use Rattle.state_incoming.proofs.deliveries.Deliveries.touch_all.Given as goal

abbrev pub invariant-loop-number : goal.invariant-loop-number
invariant-loop-number g l =
    ((n : ℕ) → is_among l.touched n ≡ true → is_among l.fn.touched n ≡ true)
    × ((n : ℕ) → held_in l.self n
    ≡ (if is_among l.fn.touched n && not (is_among l.touched n) then on l.rules (event_view l.event) l.address (g.A.Addresses.has_one l.addresses) (held_in l.fn.self n) else held_in l.fn.self n))
    × (AreGrouped l.fn.self.groups (held_in l.fn.self) → AreGrouped l.self.groups (held_in l.self))
    × (l.self.let_go.items ≡ l.fn.self.let_go.items)

abbrev pub decreases-loop-number : goal.decreases-loop-number
decreases-loop-number g l = length l.touched
