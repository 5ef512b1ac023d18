use Rattle.std.proofs.Common.{◌≡◌, Some, true, take, nat_eq}
use Rattle.std.specs.List.{list_any}
use Rattle.number_groups.specs.Groups.{numbers}
use Rattle.trace_events.specs.Event as law
use Rattle.state_tables.specs.ConsumerLinks.{link_in}
use Rattle.due_lists.specs.AddressesToTry.{IsKept, is_to_try}
use Rattle.due_lists.proofs.addresses_to_try.AddressesToTry.wake_session.Given as goal

abbrev pub invariant-loop-index : goal.invariant-loop-index
invariant-loop-index l =
    ((m : law.Link) → list_any (nat_eq m.number) (take l.index (numbers nat_eq l.links.numbers l.session)) ≡ true → link_in l.consumer_links m.number ≡ Some m → is_to_try l.self m.address ≡ true)
    × IsKept l.fn.self l.self
