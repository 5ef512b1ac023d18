-- Picks, by the links that a table keeps.
use Rattle.std.proofs.Common.{◌≡◌, refl, ℕ, Bool, List, filter, None}
use Rattle.capture_form.specs.declared.rules.Distribution.{Distribution}
use Rattle.capture_form.specs.declared.rules.Distribution.TheVariants.{Closest, Balanced, Multicast}
use Rattle.flow_counts.specs.Picks.{AddressEvent, best}
use Rattle.address_table.specs.declared.table.Table.{Table}
use Rattle.address_table.specs.Picking.{rank_of, ranks_below, pick_of}
use Rattle.address_table.specs.Links.{consumer_of, consumers_at, IsCount}

pub rank_of_none : (distribution : Distribution) → rank_of distribution None ≡ 0
rank_of_none Closest = refl
rank_of_none Balanced = refl
rank_of_none Multicast = refl

-- the table's answer is that of the events
module _ (table : Table) (past : List AddressEvent) (test : ℕ → Bool) (address : List ℕ) (count : IsCount table past) where
  pub pick_closest : best (ranks_below Closest (consumer_of table)) (filter test (consumers_at table address)) ≡ pick_of Closest test address past
  pick_closest = λ j. best (ranks_below Closest (λ link. count.links link j)) (filter test (count.lists address j))

  pub pick_balanced : best (ranks_below Balanced (consumer_of table)) (filter test (consumers_at table address)) ≡ pick_of Balanced test address past
  pick_balanced = λ j. best (ranks_below Balanced (λ link. count.links link j)) (filter test (count.lists address j))
