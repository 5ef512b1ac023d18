-- What a reader of the format finds in the block of a packet.
use Rattle.std.proofs.Common.{◌≡◌, ℕ, ◌+◌, ◌-◌, ◌/◌, ◌%◌, ◌^◌, ◌<◌, ◌≤◌, List, [], ◌++◌, length, take, drop, replicate, refl, sym, ap, subst, ◌∙◌, arith, append_assoc}
use Rattle.std.specs.Int.{w32, to_be_bytes, from_be_bytes}
use Rattle.std.proofs.lemmas.List.{length-append}
use Rattle.std.proofs.lemmas.Nat.{from_be_bytes-to_be_bytes_4, from_be_bytes-to_be_bytes_8}
use Rattle.std.proofs.Math.Seq.{drop-append_seam, take-append_seam, drop-append-add}
use Rattle.flow_counts.specs.declared.profile.TheConstants.{MAX_FRAME_SIZE}
use Rattle.capture_packets.specs.declared.blocks.TheConstants.{MOST_COMMENT}
use Rattle.capture_packets.specs.declared.segment.Endpoint.{Endpoint}
use Rattle.capture_packets.specs.declared.segment.Segment.{Segment}
use Rattle.capture_packets.specs.Ends.{client_end}
use Rattle.capture_packets.specs.Headers.{ip_header, tcp_header, tcp_header_with, packet}
use Rattle.capture_packets.specs.Blocks.{padding, block, block_option, packet_body, packet_block}
use Rattle.capture_packets.specs.Laws.{payload_in, packet_length, told_length, told_length_again, time_in, sequence_in, acknowledged_in}
use Rattle.capture_packets.proofs.HeaderLemmas.{ip_long, tcp_long}
use Rattle.capture_packets.proofs.BlockLemmas.{packet_long, block_long}

-- a block has twelve octets more than its body
block_total : (kind : ℕ) (body : List ℕ) → length (block kind body) ≡ 12 + length body
block_total kind body = omega (arith, length-append body (to_be_bytes w32 (12 + length body)))

-- behind both headers stands the payload
passed : (ip tcp payload zeros options last : List ℕ) → length ip ≡ 20 → length tcp ≡ 20
    → drop 40 ((((ip ++ (tcp ++ payload)) ++ zeros) ++ options) ++ last) ≡ payload ++ (zeros ++ (options ++ last))
passed ip tcp payload zeros options last ip_has tcp_has =
    let rest = payload ++ (zeros ++ (options ++ last)) in
    let whole : ((((ip ++ (tcp ++ payload)) ++ zeros) ++ options) ++ last) ≡ (ip ++ tcp) ++ rest = simp append_assoc in
    let forty : length (ip ++ tcp) ≡ 40 = omega (arith, length-append ip tcp) in
    ap (drop 40) whole ∙ subst (λ (n : ℕ). drop n ((ip ++ tcp) ++ rest) ≡ rest) forty (drop-append_seam (ip ++ tcp) rest)

-- the packet has few octets
packet_few : (segment : Segment) (payload : List ℕ) → length payload ≤ MAX_FRAME_SIZE → length (packet segment payload) < 2 ^ 32
packet_few segment payload small = omega (arith, packet_long segment payload)

-- the payload that is read, by the length and what stands behind both headers
read_payload : (octets payload rest : List ℕ) (size : ℕ) → packet_length octets ≡ size → drop 68 octets ≡ payload ++ rest → size ≡ 40 + length payload → payload_in octets ≡ payload
read_payload octets payload rest size told stands is =
    let len : packet_length octets - 40 ≡ length payload = omega (arith, told, is) in
    ap (λ (n : ℕ). take n (drop 68 octets)) len ∙ (ap (take (length payload)) stands ∙ take-append_seam payload rest)

pub payload_read : (time : ℕ) (comment : List ℕ) (segment : Segment) (payload : List ℕ) → length payload ≤ MAX_FRAME_SIZE
    → payload_in (packet_block time comment segment payload) ≡ payload
unfolding packet_block
payload_read time comment segment payload small =
    let octets = packet segment payload in
    let body = packet_body time comment octets in
    let zeros = replicate {A = ℕ} (padding (length octets)) 0 in
    let options = block_option 1 comment ++ block_option 0 [] in
    let last = to_be_bytes w32 (12 + length body) in
    read_payload (block 6 body) payload (zeros ++ (options ++ last)) (length octets)
    (from_be_bytes-to_be_bytes_4 (length octets) (packet_few segment payload small))
    (passed (ip_header segment (length payload)) (tcp_header segment payload) payload zeros options last (ip_long segment (length payload)) (tcp_long segment payload))
    (packet_long segment payload)

-- the lengths that are read
block_few : (time : ℕ) (comment : List ℕ) (segment : Segment) (payload : List ℕ) → length comment ≤ MOST_COMMENT → length payload ≤ MAX_FRAME_SIZE
    → 12 + length (packet_body time comment (packet segment payload)) < 2 ^ 32
block_few time comment segment payload short small = omega (arith, block_long time comment segment payload)

read_length : (kind : ℕ) (body : List ℕ) → 12 + length body < 2 ^ 32 → told_length (block kind body) ≡ length (block kind body)
read_length kind body few = from_be_bytes-to_be_bytes_4 (12 + length body) few ∙ sym (block_total kind body)

-- the last four of octets
last_four : (front last : List ℕ) → length last ≡ 4 → drop (length (front ++ last) - 4) (front ++ last) ≡ last
last_four front last four =
    let len : length (front ++ last) - 4 ≡ length front = omega (arith, length-append front last) in
    ap (λ (n : ℕ). drop n (front ++ last)) len ∙ drop-append_seam front last

read_length_again : (kind : ℕ) (body : List ℕ) → 12 + length body < 2 ^ 32 → told_length_again (block kind body) ≡ length (block kind body)
read_length_again kind body few =
    let last = to_be_bytes w32 (12 + length body) in
    ap (from_be_bytes w32) (last_four (to_be_bytes w32 kind ++ (to_be_bytes w32 (12 + length body) ++ body)) last refl)
    ∙ (from_be_bytes-to_be_bytes_4 (12 + length body) few ∙ sym (block_total kind body))

pub length_read : (time : ℕ) (comment : List ℕ) (segment : Segment) (payload : List ℕ) → length comment ≤ MOST_COMMENT → length payload ≤ MAX_FRAME_SIZE
    → told_length (packet_block time comment segment payload) ≡ length (packet_block time comment segment payload)
unfolding packet_block
length_read time comment segment payload short small = read_length 6 (packet_body time comment (packet segment payload)) (block_few time comment segment payload short small)

pub length_read_again : (time : ℕ) (comment : List ℕ) (segment : Segment) (payload : List ℕ) → length comment ≤ MOST_COMMENT → length payload ≤ MAX_FRAME_SIZE
    → told_length_again (packet_block time comment segment payload) ≡ length (packet_block time comment segment payload)
unfolding packet_block
length_read_again time comment segment payload short small = read_length_again 6 (packet_body time comment (packet segment payload)) (block_few time comment segment payload short small)

-- the time that is read
pub time_read : (time : ℕ) (comment : List ℕ) (segment : Segment) (payload : List ℕ) → time < 2 ^ 64 → time_in (packet_block time comment segment payload) ≡ time
unfolding packet_block
time_read time comment segment payload fits = from_be_bytes-to_be_bytes_8 time fits

-- behind the IPv4 header and four or eight octets more
in_tcp : (n : ℕ) (ip tcp payload zeros options last : List ℕ) → length ip ≡ 20
    → drop (20 + n) ((((ip ++ (tcp ++ payload)) ++ zeros) ++ options) ++ last) ≡ drop n (tcp ++ (payload ++ (zeros ++ (options ++ last))))
in_tcp n ip tcp payload zeros options last ip_has =
    let rest = tcp ++ (payload ++ (zeros ++ (options ++ last))) in
    let whole : ((((ip ++ (tcp ++ payload)) ++ zeros) ++ options) ++ last) ≡ ip ++ rest = simp append_assoc in
    ap (drop (20 + n)) whole ∙ subst (λ (m : ℕ). drop (m + n) (ip ++ rest) ≡ drop n rest) ip_has (drop-append-add ip rest n)

-- the sequence number that is read
pub sequence_read : (time : ℕ) (comment : List ℕ) (segment : Segment) (payload : List ℕ) → segment.sequence < 2 ^ 32
    → sequence_in (packet_block time comment segment payload) ≡ segment.sequence
unfolding packet_block tcp_header tcp_header_with
sequence_read time comment segment payload fits =
    let octets = packet segment payload in
    let zeros = replicate {A = ℕ} (padding (length octets)) 0 in
    let options = block_option 1 comment ++ block_option 0 [] in
    let last = to_be_bytes w32 (12 + length (packet_body time comment octets)) in
    ap (λ (t : List ℕ). from_be_bytes w32 (take 4 t)) (in_tcp 4 (ip_header segment (length payload)) (tcp_header segment payload) payload zeros options last (ip_long segment (length payload)))
    ∙ from_be_bytes-to_be_bytes_4 segment.sequence fits

-- the acknowledged number that is read
pub acknowledged_read : (time : ℕ) (comment : List ℕ) (segment : Segment) (payload : List ℕ) → segment.acknowledged < 2 ^ 32
    → acknowledged_in (packet_block time comment segment payload) ≡ segment.acknowledged
unfolding packet_block tcp_header tcp_header_with
acknowledged_read time comment segment payload fits =
    let octets = packet segment payload in
    let zeros = replicate {A = ℕ} (padding (length octets)) 0 in
    let options = block_option 1 comment ++ block_option 0 [] in
    let last = to_be_bytes w32 (12 + length (packet_body time comment octets)) in
    ap (λ (t : List ℕ). from_be_bytes w32 (take 4 t)) (in_tcp 8 (ip_header segment (length payload)) (tcp_header segment payload) payload zeros options last (ip_long segment (length payload)))
    ∙ from_be_bytes-to_be_bytes_4 segment.acknowledged fits

-- two connections with one end are one
pub ends_differ : (one other : ℕ) → one < 2 ^ 32 → other < 2 ^ 32 → client_end one ≡ client_end other → one ≡ other
unfolding client_end
ends_differ one other one_fits other_fits same =
    let ports : 40000 + one % 10000 ≡ 40000 + other % 10000 = ap (λ (e : Endpoint). e.port) same in
    let addresses : from_be_bytes w32 (to_be_bytes w32 (0x0A000001 + one / 10000)) ≡ from_be_bytes w32 (to_be_bytes w32 (0x0A000001 + other / 10000)) = ap (λ (e : Endpoint). from_be_bytes w32 e.address) same in
    let hosts : 0x0A000001 + one / 10000 ≡ 0x0A000001 + other / 10000 =
    sym (from_be_bytes-to_be_bytes_4 (0x0A000001 + one / 10000) (omega arith)) ∙ (addresses ∙ from_be_bytes-to_be_bytes_4 (0x0A000001 + other / 10000) (omega arith)) in
    omega arith
