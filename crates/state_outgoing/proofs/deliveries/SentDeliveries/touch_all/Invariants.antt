use Rattle.std.proofs.Common.{◌≡◌, ℕ, true, ◌&&◌, ◌||◌, not, length, option_map, if◌then◌else◌}
use Rattle.std.specs.List.{list_any}
use Rattle.amqp_perf.specs.declared.descriptor.Outcome.{Outcome}
use Rattle.number_groups.specs.Numbers.{is_among}
use Rattle.trace_events.specs.View.{event_view}
use Rattle.state_outgoing.specs.Given.{gives, says}
use Rattle.state_outgoing.specs.Sent.{sent_next}
use Rattle.state_outgoing.specs.SentGrouped.{AreGrouped}
use Rattle.state_outgoing.specs.SentTables.{sent_in}
use Rattle.state_outgoing.proofs.SentTaken.{on}
use Rattle.state_outgoing.proofs.deliveries.SentDeliveries.touch_all.Given as goal

abbrev pub invariant-loop-number : goal.invariant-loop-number
invariant-loop-number l =
    ((n : ℕ) → is_among l.touched n ≡ true → is_among l.fn.touched n ≡ true)
    × ((n : ℕ) → sent_in l.self n ≡ (if is_among l.fn.touched n && not (is_among l.touched n) then on (event_view l.event) (sent_in l.fn.self n) else sent_in l.fn.self n))
    × (AreGrouped l.fn.self.groups (sent_in l.fn.self) → AreGrouped l.self.groups (sent_in l.self))
    × (l.self.begun ≡ l.fn.self.begun)
    × (l.self.let_go.items ≡ l.fn.self.let_go.items)
    × ((link n : ℕ) (outcome : Outcome) → list_any (says link n outcome) l.given.items || list_any (λ m. gives link n outcome (option_map (sent_next (event_view l.event)) (sent_in l.fn.self m))) l.touched
    ≡ list_any (λ m. gives link n outcome (option_map (sent_next (event_view l.event)) (sent_in l.fn.self m))) l.fn.touched)

abbrev pub decreases-loop-number : goal.decreases-loop-number
decreases-loop-number l = length l.touched
