-- What the table of consumers stands for.
use Rattle.std.specs.Prelude.{◌≡◌, ℕ, Bool, true, false, ◌&&◌, List, [], ◌∷◌, is_some, bytes_eq, ◌==◌}
use Rattle.std.specs.List.{list_any}
use Rattle.number_groups.specs.Numbers.{is_among}
use Rattle.number_groups.specs.OctetGroups.{numbers}
use Rattle.trace_events.specs.Words.{is_some_and}
use Rattle.trace_events.specs.Event.{Event, Link}
use Rattle.trace_events.specs.Address.{is_consumer_of}
use Rattle.trace_events.specs.Link.{is_consumer, link_at, own_link, opened_consumer}
use Rattle.state_tables.specs.declared.consumers.Consumers.{Consumers}

-- the numbers that the table has at the address, in their order
abbrev pub numbers_at : Consumers → List ℕ → List ℕ
numbers_at table address = numbers table.groups address

-- the table has this number at the address
abbrev pub stands : Consumers → List ℕ → ℕ → Bool
stands table address n = is_among (numbers_at table address) n

-- the list has a number
abbrev pub has_some : List ℕ → Bool
has_some [] = false
has_some (n ∷ ns) = true

-- the table has a number at the address
abbrev pub is_served : Consumers → List ℕ → Bool
is_served table address = has_some (numbers_at table address)

-- just the numbers of the links that are live consumers of the address behind these events
abbrev pub AreConsumers : Consumers → List Event → Type 0
AreConsumers table past = (address : List ℕ) (n : ℕ) → stands table address n ≡ is_some_and (link_at n past) (is_consumer_of address past)

-- two tables say the same
abbrev pub AreSame : Consumers → Consumers → Type 0
AreSame earlier later = (address : List ℕ) (n : ℕ) → stands later address n ≡ stands earlier address n

-- the event opens a consumer's link of the address, of this number
abbrev pub opens_for : List ℕ → ℕ → Event → Bool
opens_for address n e = is_some_and (own_link e) (λ l. is_consumer l && bytes_eq l.address address && (l.number == n))

-- the event opens a consumer's link
abbrev pub opens_consumer : Event → Bool
opens_consumer e = is_some (opened_consumer e)

-- one of these links has the address and the number
abbrev pub has_link_of : List Link → List ℕ → ℕ → Bool
has_link_of links address n = list_any (λ l. bytes_eq l.address address && (l.number == n)) links
