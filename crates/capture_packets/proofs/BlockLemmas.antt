-- The block of a packet, part by part.
use Rattle.std.proofs.Common.{◌≡◌, ℕ, ◌+◌, List, [], ◌++◌, length, replicate, sym, ap, ◌∙◌, arith, append_assoc}
use Rattle.std.specs.Int.{w32, w64, to_be_bytes}
use Rattle.std.proofs.lemmas.List.{length-append, length-replicate}
use Rattle.capture_packets.specs.declared.segment.Segment.{Segment}
use Rattle.capture_packets.specs.Headers.{ip_header, tcp_header, packet}
use Rattle.capture_packets.specs.Blocks.{padding, padded, option_head, block_option, packet_body, packet_block, block_length, block_head, block_end}
use Rattle.capture_packets.proofs.HeaderLemmas.{ip_long, tcp_long}

-- a packet has forty octets more than its payload
pub packet_long : (segment : Segment) (payload : List ℕ) → length (packet segment payload) ≡ 40 + length payload
packet_long segment payload =
    omega (arith, length-append (ip_header segment (length payload)) (tcp_header segment payload ++ payload), length-append (tcp_header segment payload) payload, ip_long segment (length payload), tcp_long segment payload)

-- a body has twelve octets less than its block
body_long : (time : ℕ) (comment octets : List ℕ) → 12 + length (packet_body time comment octets) ≡ 40 + (length octets + padding (length octets)) + (length comment + padding (length comment))
body_long time comment octets =
    omega (
      arith,
      length-append (padded octets) (block_option 1 comment ++ block_option 0 []),
      length-append octets (replicate (padding (length octets)) 0),
      length-replicate {A = ℕ} (padding (length octets)) 0,
      length-append (padded comment) (block_option 0 []),
      length-append comment (replicate (padding (length comment)) 0),
      length-replicate {A = ℕ} (padding (length comment)) 0,
    )

-- the parts as they are appended, and as they stand in the block
regrouped : (kind len face time held size ip tcp payload zeros head comment behind last again : List ℕ)
    → ((((((kind ++ (len ++ (face ++ (time ++ (held ++ size))))) ++ ip) ++ tcp) ++ (payload ++ zeros)) ++ head) ++ (comment ++ behind)) ++ (last ++ again)
    ≡ kind ++ (len ++ ((face ++ (time ++ (held ++ (size ++ (((ip ++ (tcp ++ payload)) ++ zeros) ++ ((head ++ (comment ++ behind)) ++ last)))))) ++ again))
regrouped kind len face time held size ip tcp payload zeros head comment behind last again = simp append_assoc

-- a block of so many octets, whose packet has so many
abbrev block_of : ℕ → List ℕ → List ℕ → ℕ → ℕ → List ℕ
block_of time comment octets len size =
    to_be_bytes w32 6 ++ (to_be_bytes w32 len ++ ((to_be_bytes w32 0 ++ (to_be_bytes w64 time ++ (to_be_bytes w32 size ++ (to_be_bytes w32 size
    ++ ((octets ++ replicate (padding size) 0) ++ (block_option 1 comment ++ block_option 0 [])))))) ++ to_be_bytes w32 len))

-- so long is the block of a packet
pub block_long : (time : ℕ) (comment : List ℕ) (segment : Segment) (payload : List ℕ) → 12 + length (packet_body time comment (packet segment payload)) ≡ block_length (length comment) (length payload)
block_long time comment segment payload =
    let size = packet_long segment payload in
    let pads : padding (length (packet segment payload)) ≡ padding (40 + length payload) = ap padding size in
    omega (arith, body_long time comment (packet segment payload), size, pads)

-- the block as it is appended
pub block_spelled : (time : ℕ) (comment : List ℕ) (segment : Segment) (payload : List ℕ)
    → ((((((block_head time (block_length (length comment) (length payload)) (40 + length payload) ++ ip_header segment (length payload)) ++ tcp_header segment payload)
    ++ (payload ++ replicate (padding (40 + length payload)) 0)) ++ option_head 1 (length comment)) ++ (comment ++ replicate (padding (length comment)) 0)) ++ block_end (block_length (length comment) (length payload)))
    ≡ packet_block time comment segment payload
unfolding packet_block block_head
block_spelled time comment segment payload =
    let len = block_length (length comment) (length payload) in
    let size = 40 + length payload in
    regrouped (to_be_bytes w32 6) (to_be_bytes w32 len) (to_be_bytes w32 0) (to_be_bytes w64 time) (to_be_bytes w32 size) (to_be_bytes w32 size)
    (ip_header segment (length payload)) (tcp_header segment payload) payload (replicate (padding size) 0)
    (option_head 1 (length comment)) comment (replicate (padding (length comment)) 0) (block_option 0 []) (to_be_bytes w32 len)
    ∙ (ap (λ (n : ℕ). block_of time comment (packet segment payload) n size) (sym (block_long time comment segment payload))
    ∙ ap (λ (n : ℕ). block_of time comment (packet segment payload) (12 + length (packet_body time comment (packet segment payload))) n) (sym (packet_long segment payload)))
