-- The octets in front of the frames.
use Rattle.std.specs.Prelude.{ℕ, List, [], ◌∷◌}
use Rattle.amqp_frames.specs.declared.header.ProtocolHeader.{ProtocolHeader}
use Rattle.amqp_frames.specs.declared.header.ProtocolHeader.TheVariants.{Amqp, Sasl}

-- the protocol's number: 0 for AMQP (part 2, 2.2), 3 for SASL (part 5, 5.3.1)
abbrev pub protocol_id : ProtocolHeader → ℕ
protocol_id Amqp = 0
protocol_id Sasl = 3

-- the name of the protocol, its number, and the version 1.0.0 (part 2, 2.2)
abbrev pub header_octets : ProtocolHeader → List ℕ
header_octets header = 0x41 ∷ 0x4D ∷ 0x51 ∷ 0x50 ∷ protocol_id header ∷ 1 ∷ 0 ∷ 0 ∷ []
