-- The octets of headers, and how many they are.
use Rattle.std.proofs.Common.{◌≡◌, ℕ, ◌+◌, Bool, true, false, List, [], ◌∷◌, ◌++◌, length, get_or, refl, sym, ap, ◌∙◌, arith, if◌then◌else◌}
use Rattle.std.specs.Int.{w16, to_be_bytes}
use Rattle.std.proofs.lemmas.List.{length-append}
use Rattle.capture_packets.specs.declared.segment.Endpoint.{Endpoint}
use Rattle.capture_packets.specs.declared.segment.Segment.{Segment}
use Rattle.capture_packets.specs.Ends.{client_end, router_end, source_of, target_of}
use Rattle.capture_packets.specs.Headers.{ip_header_with, ip_header, pseudo_header, tcp_header_with, tcp_header}

-- four octets in front of others, one by one
pub four_in_front : (xs rest : List ℕ) → length xs ≡ 4 → xs ++ rest ≡ get_or xs 0 0 ∷ get_or xs 1 0 ∷ get_or xs 2 0 ∷ get_or xs 3 0 ∷ rest
four_in_front [] rest is = absurd (omega arith)
four_in_front (a ∷ []) rest is = absurd (omega arith)
four_in_front (a ∷ b ∷ []) rest is = absurd (omega arith)
four_in_front (a ∷ b ∷ c ∷ []) rest is = absurd (omega arith)
four_in_front (a ∷ b ∷ c ∷ d ∷ []) rest is = refl
four_in_front (a ∷ b ∷ c ∷ d ∷ e ∷ more) rest is = absurd (omega arith)

-- an address has four octets
client_four : (connection : ℕ) → length (client_end connection).address ≡ 4
unfolding client_end
client_four connection = refl

either_four : (b : Bool) (x y : Endpoint) → length x.address ≡ 4 → length y.address ≡ 4 → length (if b then x else y).address ≡ 4
either_four true x y first second = first
either_four false x y first second = second

pub source_four : (segment : Segment) → length (source_of segment).address ≡ 4
source_four segment = either_four segment.is_from_client (client_end segment.connection) router_end (client_four segment.connection) refl

pub target_four : (segment : Segment) → length (target_of segment).address ≡ 4
target_four segment = either_four segment.is_from_client router_end (client_end segment.connection) refl (client_four segment.connection)

-- what stands in front of a segment for its checksum, octet by octet
pub pseudo_spelled : (segment : Segment) (len : ℕ) (s t : Endpoint) (n : List ℕ) → s ≡ source_of segment → t ≡ target_of segment → n ≡ to_be_bytes w16 (20 + len)
    → (get_or s.address 0 0 ∷ get_or s.address 1 0 ∷ get_or s.address 2 0 ∷ get_or s.address 3 0 ∷ get_or t.address 0 0 ∷ get_or t.address 1 0 ∷ get_or t.address 2 0 ∷ get_or t.address 3 0 ∷ 0 ∷ 6 ∷ get_or n 0 0 ∷ get_or n 1 0 ∷ []) ≡ pseudo_header segment len
unfolding pseudo_header
pseudo_spelled segment len s t n source target number =
    let first : length s.address ≡ 4 = ap (λ (e : Endpoint). length e.address) source ∙ source_four segment in
    let second : length t.address ≡ 4 = ap (λ (e : Endpoint). length e.address) target ∙ target_four segment in
    let octets : (get_or n 0 0 ∷ get_or n 1 0 ∷ []) ≡ to_be_bytes w16 (20 + len) = ap (λ (x : List ℕ). get_or x 0 0 ∷ get_or x 1 0 ∷ []) number in
    sym (ap (λ (x : List ℕ). s.address ++ x) (four_in_front t.address (0 ∷ 6 ∷ get_or n 0 0 ∷ get_or n 1 0 ∷ []) second) ∙ four_in_front s.address (get_or t.address 0 0 ∷ get_or t.address 1 0 ∷ get_or t.address 2 0 ∷ get_or t.address 3 0 ∷ 0 ∷ 6 ∷ get_or n 0 0 ∷ get_or n 1 0 ∷ []) first)
    ∙ (ap (λ (e : Endpoint). e.address ++ (t.address ++ (0 ∷ 6 ∷ get_or n 0 0 ∷ get_or n 1 0 ∷ []))) source
    ∙ (ap (λ (e : Endpoint). (source_of segment).address ++ (e.address ++ (0 ∷ 6 ∷ get_or n 0 0 ∷ get_or n 1 0 ∷ []))) target
    ∙ ap (λ (x : List ℕ). (source_of segment).address ++ ((target_of segment).address ++ (0 ∷ 6 ∷ x))) octets))

-- an IPv4 header has twenty octets
pub ip_long : (segment : Segment) (len : ℕ) → length (ip_header segment len) ≡ 20
unfolding ip_header ip_header_with
ip_long segment len =
    omega (arith, length-append (source_of segment).address (target_of segment).address, source_four segment, target_four segment)

-- and a TCP header
pub tcp_long : (segment : Segment) (payload : List ℕ) → length (tcp_header segment payload) ≡ 20
unfolding tcp_header tcp_header_with
tcp_long segment payload = refl
