-- Which segments a record becomes, by the sequence numbers that both sides of its connection have come to (RFC 9293, 3.4,
-- 3.5: a SYN counts as one octet). Own choice.
use Rattle.std.specs.Prelude.{ℕ, ◌+◌, ◌%◌, ◌^◌, true, false, List, [], ◌∷◌, ◌++◌, length, codes, Option, Some, None}
use Rattle.capture_form.specs.declared.records.What.{What}
use Rattle.capture_form.specs.declared.records.What.TheVariants.{Opened, In, Out, Lost, Broken}
use Rattle.capture_form.specs.declared.records.Record.{Record}
use Rattle.capture_form.specs.Text.{frame_of}
use Rattle.capture_packets.specs.declared.conversation.Conversation.{Conversation}
use Rattle.capture_packets.specs.declared.segment.Segment.{Segment}
use Rattle.capture_packets.specs.Blocks.{packet_block}
use Rattle.capture_packets.specs.Comment.{comment_text}

-- the header of AMQP 1.0 (part 2, 2.2)
abbrev pub amqp_header : List ℕ
amqp_header = codes "AMQP" ++ (0 ∷ 1 ∷ 0 ∷ 0 ∷ [])

-- behind the SYN and the AMQP header of both sides
abbrev pub fresh : Conversation
fresh = record { client = 9; router = 9 }

-- a segment of the client
abbrev pub from_client : ℕ → ℕ → ℕ → ℕ → Segment
from_client connection flags sequence acknowledged =
    record { connection = connection; is_from_client = true; flags = flags; sequence = sequence; acknowledged = acknowledged }

-- a segment of the router
abbrev pub from_router : ℕ → ℕ → ℕ → ℕ → Segment
from_router connection flags sequence acknowledged =
    record { connection = connection; is_from_client = false; flags = flags; sequence = sequence; acknowledged = acknowledged }

-- the handshake, and the AMQP headers of both sides: SYN 2, SYN and ACK 18, ACK 16, PSH and ACK 24
unfoldable pub opening_blocks : ℕ → List ℕ → ℕ → List ℕ
opening_blocks number comment connection =
    packet_block number comment (from_client connection 2 0 0) []
    ++ (packet_block number comment (from_router connection 18 0 1) []
    ++ (packet_block number comment (from_client connection 16 1 1) []
    ++ (packet_block number comment (from_client connection 24 1 1) amqp_header
    ++ packet_block number comment (from_router connection 24 1 9) amqp_header)))

-- the segment of a record: a frame with PSH and ACK, RST and ACK 20 where the device is lost, and else ACK alone
abbrev pub own_segment : Conversation → ℕ → What → Segment
own_segment talk connection Opened = from_client connection 16 talk.client talk.router
own_segment talk connection (In frame) = from_client connection 24 talk.client talk.router
own_segment talk connection (Out frame) = from_router connection 24 talk.router talk.client
own_segment talk connection Lost = from_client connection 20 talk.client talk.router
own_segment talk connection Broken = from_client connection 16 talk.client talk.router

-- the block of that segment, with the record's frame
abbrev pub own_block : Conversation → ℕ → Record → List ℕ
own_block talk number entry =
    packet_block number (comment_text number entry) (own_segment talk entry.connection entry.what) (frame_of entry.what)

-- the blocks of a record of a connection that has come so far, or that has no record in front of this one
abbrev pub record_blocks : Option Conversation → ℕ → Record → List ℕ
record_blocks None number entry = opening_blocks number (comment_text number entry) entry.connection ++ own_block fresh number entry
record_blocks (Some talk) number entry = own_block talk number entry

-- how many octets the client sent with a record
abbrev pub octets_in : What → ℕ
octets_in Opened = 0
octets_in (In frame) = length frame
octets_in (Out frame) = 0
octets_in Lost = 0
octets_in Broken = 0

-- how many octets the router sent with a record
abbrev pub octets_out : What → ℕ
octets_out Opened = 0
octets_out (In frame) = 0
octets_out (Out frame) = length frame
octets_out Lost = 0
octets_out Broken = 0

-- what the sequence numbers have come to behind a record
abbrev pub behind : Conversation → What → Conversation
behind talk what = record { client = (talk.client + octets_in what) % 2 ^ 32; router = (talk.router + octets_out what) % 2 ^ 32 }
