-- The message of a delivery from a client, from the parts on the stack.
use Rattle.std.specs.Prelude.{ℕ, ◌-◌, List, [], ◌∷◌, ◌++◌, length, take, Option, unwrap_or, option_map}
use Rattle.flow_counts.specs.declared.profile.TheConstants.{MAX_MESSAGE_SIZE}
use Rattle.amqp_cuts.specs.Address.{address_octets}
use Rattle.amqp_cuts.specs.declared.address.Address.{Address}
use Rattle.trace_events.specs.Event.{Event}
use Rattle.trace_law.specs.Payloads.{part_of}
use Rattle.trace_law.specs.OnStack.{events}
use Rattle.trace_law.specs.declared.delivery.payload.Delivery.TheVariants.{Incoming}
use Rattle.trace_law.specs.declared.delivery.message.Message.{Message}
use Rattle.trace_law.specs.declared.delivery.message.Addressed.{Addressed}
use Rattle.trace_law.specs.declared.delivery.message.Addressed.TheVariants.{OfLink, OfMessage}

-- its parts, joined, up to as many octets as a message may have
abbrev pub joined : ℕ → List Event → List ℕ
joined number [] = []
joined number (e ∷ past) =
    let before = joined number past in before ++ take (MAX_MESSAGE_SIZE - length before) (part_of (Incoming number) e)

-- what a message on the stack has
abbrev pub message_octets : Message → List ℕ
message_octets message = joined message.number (events message.past.now)

-- the octets of an address that is found; none, where there is none
abbrev pub found_octets : Option Address → List ℕ
found_octets o = unwrap_or (option_map address_octets o) []

abbrev pub addressed_octets : Addressed → List ℕ
addressed_octets (OfLink octets) = octets.now
addressed_octets (OfMessage address) = found_octets address
