-- A list behind a number of one octet, by its first octets.
use Rattle.std.proofs.Common.{◌≡◌, ℕ, suc, ◌-◌, ◌≤◌, List, [], ◌∷◌, length, take, drop, slice_index_or, Some, Ok, refl, ap, ◌∙◌, subst, arith}
use Rattle.std.proofs.lemmas.List.{take_all}
use Rattle.amqp_types.specs.declared.code.Kind.TheVariants as kinds
use Rattle.amqp_types.specs.declared.code.Scalar.TheVariants as scalars
use Rattle.amqp_types.specs.declared.code.Code.TheVariants as codes
use Rattle.amqp_types.specs.Codes.{code_of, scalar_of_code}
use Rattle.amqp_types.specs.Part.{Part, Ulong, Nested, Described}
use Rattle.amqp_types.specs.Reading.{seen_at, value_at, value_by, coded_at}
use Rattle.amqp_types.specs.Items.{seen_in, seen_of}
use Rattle.amqp_types.specs.Listed.{IsList, listed}
use Rattle.amqp_types.specs.Grammar.{IsValue, IsData}
use Rattle.flow_counts.specs.declared.profile.TheConstants.{MAX_DEPTH}
use Rattle.amqp_types.proofs.Levels.{data_nested}
use Rattle.amqp_types.proofs.Values.{seen_found, seen_again}
use Rattle.amqp_types.proofs.Deeper.{value_deeper}
use Rattle.amqp_types.proofs.Nested.{value_is}

-- an ulong of one octet is a value
pub number_is : (levels n : ℕ) → IsValue (suc levels) (0x53 ∷ n ∷ []) (Ulong n)
unfolding IsValue IsData code_of scalar_of_code
number_is levels n = (codes.Fixed scalars.UlongOctet, refl, (n, record { len = refl; says = omega arith }, refl))

-- the value that such a list is
list_read : (first : ℕ) (bytes : List ℕ) (count : ℕ) (body rest : List ℕ) → IsList first bytes count body rest
    → (octets : List ℕ) × (seen_at 31 3 (first ∷ bytes) ≡ Ok (record { octets = octets; part = Nested kinds.List count body }, rest))
unfolding IsList seen_at value_at value_by coded_at
list_read first bytes count body rest is =
    rw (is.1, data_nested 31 kinds.List is.0 3 bytes (omega arith), is.2) (take (suc (length bytes) - length rest) (first ∷ bytes), refl)

-- with its descriptor in front
described_is : (n : ℕ) (octets : List ℕ) (count : ℕ) (body : List ℕ) → IsValue 31 octets (Nested kinds.List count body)
    → IsValue MAX_DEPTH (0x00 ∷ 0x53 ∷ n ∷ octets) (Described (0x53 ∷ n ∷ []) octets)
unfolding IsValue IsData code_of
described_is n octets count body is = (
  codes.Described,
  refl,
  record {
    descriptor = 0x53 ∷ n ∷ [];
    described = octets;
    parts = refl;
    descriptor_says = Ulong n;
    descriptor_is = number_is 30 n;
    described_says = Nested kinds.List count body;
    described_is = is;
    is = refl;
  },
)

pub numbered : (n first : ℕ) (bytes : List ℕ) (count : ℕ) (body rest : List ℕ) → IsList first bytes count body rest
    → listed (seen_at MAX_DEPTH 0 (0x00 ∷ 0x53 ∷ n ∷ first ∷ bytes)) ≡ Ok (Some (record { octets = 0x53 ∷ n ∷ []; part = Ulong n }, seen_in count body), rest)
numbered n first bytes count body rest is =
    let list = list_read first bytes count body rest is in
    let part = Nested kinds.List count body in
    let front = seen_found 31 3 (first ∷ bytes) (record { octets = list.0; part = part }, rest) list.1 in
    let whole : List ℕ = 0x00 ∷ 0x53 ∷ n ∷ list.0 in
    let both : Part = Described (0x53 ∷ n ∷ []) list.0 in
    let is_whole : IsValue MAX_DEPTH whole both = described_is n list.0 count body front.is in
    let read : seen_at MAX_DEPTH 0 (0x00 ∷ 0x53 ∷ n ∷ first ∷ bytes) ≡ Ok (record { octets = whole; part = both }, rest) =
    ap (λ (t : List ℕ). seen_at MAX_DEPTH 0 (0x00 ∷ 0x53 ∷ n ∷ t)) front.parts ∙ seen_again MAX_DEPTH 0 whole rest both is_whole in
    let descriptor : seen_of (0x53 ∷ n ∷ []) ≡ record { octets = 0x53 ∷ n ∷ []; part = Ulong n } = value_is (0x53 ∷ n ∷ []) (Ulong n) (number_is 31 n) in
    let described : seen_of list.0 ≡ record { octets = list.0; part = part } = value_is list.0 part (value_deeper 31 MAX_DEPTH list.0 part (omega arith) front.is) in
    rw (read, descriptor, described) refl

-- the same, where it stands at the front of octets
pub numbered_front : (bytes : List ℕ) (count : ℕ) (body rest : List ℕ) → 4 ≤ length bytes → slice_index_or bytes 0 0 ≡ 0x00 → slice_index_or bytes 1 0 ≡ 0x53
    → IsList (slice_index_or bytes 3 0) (take (length bytes - 4) (drop 4 bytes)) count body rest
    → listed (seen_at MAX_DEPTH 0 bytes) ≡ Ok (Some (record { octets = take 2 (drop 1 bytes); part = Ulong (slice_index_or bytes 2 0) }, seen_in count body), rest)
numbered_front [] count body rest long a b is = absurd (omega (arith, long))
numbered_front (x ∷ []) count body rest long a b is = absurd (omega (arith, long))
numbered_front (x ∷ y ∷ []) count body rest long a b is = absurd (omega (arith, long))
numbered_front (x ∷ y ∷ z ∷ []) count body rest long a b is = absurd (omega (arith, long))
numbered_front (x ∷ y ∷ z ∷ w ∷ more) count body rest long a b is =
    let all : take (length (x ∷ y ∷ z ∷ w ∷ more) - 4) more ≡ more = take_all _ more (omega arith) in
    rw (a, b) (numbered z w more count body rest (subst (λ (t : List ℕ). IsList w t count body rest) all is))
