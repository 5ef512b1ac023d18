use Rattle.std.proofs.Common.{◌≡◌, ◌||◌, ℕ, List, take}
use Rattle.std.specs.List.{list_any}
use Rattle.due_lists.specs.AddressesToTry.{is_consumer_to, is_to_try}
use Rattle.due_lists.proofs.addresses_to_try.AddressesToTry.add_ended.Given as goal

abbrev pub invariant-loop-link : goal.invariant-loop-link
invariant-loop-link l = (at : List ℕ) → is_to_try l.self at ≡ (is_to_try l.fn.self at || list_any (is_consumer_to at) (take l.link-index l.ended))
