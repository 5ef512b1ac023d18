-- What happens to the links of consumers, as the code lists it: the oldest first.
use Rattle.std.specs.Prelude.{List, map, reverse}
use Rattle.flow_counts.specs.Picks as picks
use Rattle.address_table.specs.declared.history.AddressEvent.{AddressEvent}
use Rattle.address_table.specs.declared.history.AddressEvent.TheVariants.{Attached, Detached, Begun, Decided}

-- what an event of the code stands for: the address that it lends is a list of octets
abbrev pub address_event : AddressEvent → picks.AddressEvent
address_event (Attached address link pre_settled) = picks.Attached link address.now pre_settled
address_event (Detached link) = picks.Detached link
address_event (Begun link number) = picks.Begun link number
address_event (Decided link) = picks.Decided link

unfoldable pub events_of : List AddressEvent → List picks.AddressEvent
events_of events = reverse (map address_event events)
