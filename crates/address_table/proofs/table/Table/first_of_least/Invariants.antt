use Rattle.std.proofs.Common.{ℕ, ◌≡◌, ◌<◌, ◌^◌, Bool, take, filter}
use Rattle.std.specs.Option.{option_map}
use Rattle.flow_counts.specs.Picks.{best}
use Rattle.address_table.specs.Picking.{rank_of, ranks_below}
use Rattle.address_table.specs.Links.{consumer_of}
use Rattle.address_table.proofs.table.Table.first_of_least.Given as goal

abbrev pub invariant-loop-link : goal.invariant-loop-link
invariant-loop-link g l =
    (test : ℕ → Bool) → ((link : ℕ) (answer : Bool) → link < 2 ^ 64 → goal.F-post g l.eligible link answer → answer ≡ test link)
    → l.best ≡ option_map (λ link. (rank_of l.distribution (consumer_of l.self link), link)) (best (ranks_below l.distribution (consumer_of l.self)) (filter test (take l.link-index l.links)))
