-- What happens to the deliveries that come in from a client, as the code lists it: the oldest first.
use Rattle.std.specs.Prelude.{List, map, reverse}
use Rattle.flow_counts.specs.Parts as parts
use Rattle.unsettled.specs.declared.history.PartEvent.{PartEvent}
use Rattle.unsettled.specs.declared.history.PartEvent.TheVariants.{Part, Aborted, Completed, Freed}

-- what an event of the code stands for: the payload that it lends is a list of octets
abbrev pub part_event : PartEvent → parts.PartEvent
part_event (Part link number id payload) = parts.Part link number id payload.now
part_event (Aborted link) = parts.Aborted link
part_event (Completed link) = parts.Completed link
part_event (Freed id) = parts.Freed id

unfoldable pub parts_of : List PartEvent → List parts.PartEvent
parts_of events = reverse (map part_event events)
