use Rattle.std.proofs.Common.{◌≡◌, ℕ, None, nat_eq, if◌then◌else◌, take}
use Rattle.indexmap.specs.IndexMap.{get}
use Rattle.number_groups.specs.Numbers.{is_among}
use Rattle.state_outgoing.proofs.deliveries.remove_all.Given as goal

abbrev pub invariant-loop-number : goal.invariant-loop-number
invariant-loop-number l = (n : ℕ) → get nat_eq l.entries n ≡ (if is_among (take l.number-index l.numbers) n then None else get nat_eq l.fn.entries n)
