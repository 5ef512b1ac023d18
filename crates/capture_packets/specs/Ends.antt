-- Between which ends the segments of a connection go. Own choice.
use Rattle.std.specs.Prelude.{ℕ, ◌+◌, ◌/◌, ◌%◌, [], ◌∷◌, if◌then◌else◌}
use Rattle.std.specs.Int.{w32, to_be_bytes}
use Rattle.capture_packets.specs.declared.segment.Endpoint.{Endpoint}
use Rattle.capture_packets.specs.declared.segment.Segment.{Segment}

-- the client's end: ten thousand connections at each address from 10.0.0.1 on, at the ports from 40000 on
unfoldable pub client_end : ℕ → Endpoint
client_end connection = record { address = to_be_bytes w32 (0x0A000001 + connection / 10000); port = 40000 + connection % 10000 }

-- the router's end: 192.0.2.1, at the port of AMQP
abbrev pub router_end : Endpoint
router_end = record { address = 192 ∷ 0 ∷ 2 ∷ 1 ∷ []; port = 5672 }

-- the end that sends a segment
abbrev pub source_of : Segment → Endpoint
source_of segment = if segment.is_from_client then client_end segment.connection else router_end

-- the end that a segment is sent to
abbrev pub target_of : Segment → Endpoint
target_of segment = if segment.is_from_client then router_end else client_end segment.connection
