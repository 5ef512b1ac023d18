-- The headers of a segment in an IPv4 packet (RFC 791, 3.1; RFC 9293, 3.1) and their checksums (RFC 1071).
use Rattle.std.specs.Prelude.{ℕ, ◌+◌, ◌-◌, ◌*◌, ◌%◌, ◌==◌, List, [], ◌∷◌, ◌++◌, length, if◌then◌else◌}
use Rattle.std.specs.Int.{w16, w32, to_be_bytes}
use Rattle.capture_packets.specs.declared.segment.Segment.{Segment}
use Rattle.capture_packets.specs.Ends.{source_of, target_of}

-- the sum of the words of two octets; a last octet alone has a zero behind it
abbrev pub sum_of_words : List ℕ → ℕ
sum_of_words [] = 0
sum_of_words (last ∷ []) = 256 * last
sum_of_words (high ∷ low ∷ rest) = 256 * high + low + sum_of_words rest

-- the complement of the sum with the carries added at its end: of 1 to 65535 the number that differs from the sum by a
-- multiple of 65535
abbrev pub checksum : ℕ → ℕ
checksum sum = if sum == 0 then 65535 else 65534 - (sum - 1) % 65535

-- an IPv4 header with this checksum, of a segment with so many octets of payload: version and length, service, total
-- length, identification, not to be fragmented, hops, TCP, checksum, source, target
unfoldable pub ip_header_with : ℕ → Segment → ℕ → List ℕ
ip_header_with sum segment len =
    0x45 ∷ 0 ∷ (to_be_bytes w16 (40 + len) ++ (0 ∷ 0 ∷ 0x40 ∷ 0 ∷ 64 ∷ 6 ∷ (to_be_bytes w16 sum ++ ((source_of segment).address ++ (target_of segment).address))))

-- an IPv4 header: its checksum is that of itself with 0 in the checksum's place
unfoldable pub ip_header : Segment → ℕ → List ℕ
ip_header segment len = ip_header_with (checksum (sum_of_words (ip_header_with 0 segment len))) segment len

-- what the checksum of a segment covers in front of it: source, target, TCP, and the segment's length
unfoldable pub pseudo_header : Segment → ℕ → List ℕ
pseudo_header segment len = (source_of segment).address ++ ((target_of segment).address ++ (0 ∷ 6 ∷ to_be_bytes w16 (20 + len)))

-- a TCP header with this checksum: ports, sequence number, acknowledged number, length in words, flags, window, checksum,
-- urgent
unfoldable pub tcp_header_with : ℕ → Segment → List ℕ
tcp_header_with sum segment =
    to_be_bytes w16 (source_of segment).port ++ (to_be_bytes w16 (target_of segment).port
    ++ (to_be_bytes w32 segment.sequence ++ (to_be_bytes w32 segment.acknowledged
    ++ (0x50 ∷ segment.flags ∷ 0xFF ∷ 0xFF ∷ (to_be_bytes w16 sum ++ 0 ∷ 0 ∷ [])))))

-- a TCP header: its checksum is that of the pseudo header, itself with 0 in the checksum's place, and the payload. The
-- first two have whole words, so that their sums add up
unfoldable pub tcp_header : Segment → List ℕ → List ℕ
tcp_header segment payload =
    tcp_header_with (checksum (sum_of_words (pseudo_header segment (length payload)) + sum_of_words (tcp_header_with 0 segment) + sum_of_words payload)) segment

-- a packet: both headers and the payload
abbrev pub packet : Segment → List ℕ → List ℕ
packet segment payload = ip_header segment (length payload) ++ (tcp_header segment payload ++ payload)
