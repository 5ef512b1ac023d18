use Rattle.std.proofs.Common.{◌≡◌, ℕ, nat_eq, option_map, take}
use Rattle.indexmap.specs.IndexMap.{get}
use Rattle.number_groups.specs.Numbers.{is_among}
use Rattle.state_outgoing.specs.SentTables.{last_without}
use Rattle.state_outgoing.specs.SentViews.{sent_view}
use Rattle.state_outgoing.proofs.deliveries.leave_links.Given as goal

abbrev pub invariant-loop-number : goal.invariant-loop-number
invariant-loop-number l =
    ((n : ℕ) → get nat_eq l.begun.on_link n
    ≡ last_without (λ m. option_map sent_view (get nat_eq l.entries m)) (is_among (take l.number-index l.numbers)) n (get nat_eq l.fn.begun.on_link n))
    × (l.begun.carriers ≡ l.fn.begun.carriers)
