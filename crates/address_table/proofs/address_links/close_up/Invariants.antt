use Rattle.std.proofs.Common.{◌≡◌, ◌++◌, map, take, drop}
use Rattle.address_table.specs.AddressLinks.{moved_up}
use Rattle.address_table.proofs.address_links.close_up.Given as goal

abbrev pub invariant-loop-standing : goal.invariant-loop-standing
invariant-loop-standing l = l.standing-items ≡ map (moved_up l.gone) (take l.standing-index l.fn.order.items) ++ drop l.standing-index l.fn.order.items
