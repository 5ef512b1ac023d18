-- The blocks of a pcapng file (draft-ietf-opsawg-pcapng, 3.1, 3.5, 4.1 to 4.3), big-endian.
use Rattle.std.specs.Prelude.{ℕ, ◌+◌, ◌-◌, ◌%◌, List, [], ◌++◌, length, replicate}
use Rattle.std.specs.Int.{w16, w32, w64, to_be_bytes}
use Rattle.capture_packets.specs.declared.segment.Segment.{Segment}
use Rattle.capture_packets.specs.Headers.{packet}

-- how many octets bring so many to a multiple of four
abbrev pub padding : ℕ → ℕ
padding len = (4 - len % 4) % 4

-- octets, and zeros up to a multiple of four
abbrev pub padded : List ℕ → List ℕ
padded octets = octets ++ replicate (padding (length octets)) 0

-- a block: its type, how many octets it has, its body, and the number of octets again
abbrev pub block : ℕ → List ℕ → List ℕ
block kind body = to_be_bytes w32 kind ++ (to_be_bytes w32 (12 + length body) ++ (body ++ to_be_bytes w32 (12 + length body)))

-- what stands in front of an option's value: its code, and the number of the value's octets
abbrev pub option_head : ℕ → ℕ → List ℕ
option_head code len = to_be_bytes w16 code ++ to_be_bytes w16 len

-- an option
abbrev pub block_option : ℕ → List ℕ → List ℕ
block_option code value = option_head code (length value) ++ padded value

-- the head of a section: the magic that tells big-endian, version 1.0, and no length of the section
abbrev pub section_header : List ℕ
section_header = block 0x0A0D0D0A (to_be_bytes w32 0x1A2B3C4D ++ (to_be_bytes w16 1 ++ (to_be_bytes w16 0 ++ replicate 8 0xFF)))

-- an interface whose packets are of IPv4, without a limit on their lengths; its time is in microseconds
abbrev pub interface_description : List ℕ
interface_description = block 1 (to_be_bytes w16 228 ++ (to_be_bytes w16 0 ++ to_be_bytes w32 0))

-- what stands in front of the packets
abbrev pub file_head : List ℕ
file_head = section_header ++ interface_description

-- the body of a packet's block: interface, time, the lengths of what is held and of the packet, the packet, a comment, and
-- the end of the options
abbrev pub packet_body : ℕ → List ℕ → List ℕ → List ℕ
packet_body time comment octets =
    to_be_bytes w32 0 ++ (to_be_bytes w64 time ++ (to_be_bytes w32 (length octets) ++ (to_be_bytes w32 (length octets) ++ (padded octets ++ (block_option 1 comment ++ block_option 0 [])))))

-- the block of a segment with a payload
unfoldable pub packet_block : ℕ → List ℕ → Segment → List ℕ → List ℕ
packet_block time comment segment payload = block 6 (packet_body time comment (packet segment payload))

-- ---- the parts in which it is written

-- so many octets has the block of a packet with so many octets of comment and payload
abbrev pub block_length : ℕ → ℕ → ℕ
block_length comment payload = 80 + (payload + padding (40 + payload)) + (comment + padding comment)

-- what stands in front of the packet
unfoldable pub block_head : ℕ → ℕ → ℕ → List ℕ
block_head time len octets =
    to_be_bytes w32 6 ++ (to_be_bytes w32 len ++ (to_be_bytes w32 0 ++ (to_be_bytes w64 time ++ (to_be_bytes w32 octets ++ to_be_bytes w32 octets))))

-- what stands behind the options
abbrev pub block_end : ℕ → List ℕ
block_end len = block_option 0 [] ++ to_be_bytes w32 len
