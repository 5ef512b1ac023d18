-- Values that are passed over: what is behind them is what is behind them where they are read.
use Rattle.std.proofs.Common.{◌≡◌, rules, ℕ, suc, ◌+◌, ◌-◌, ◌≤◌, ◌<◌, true, List, [], ◌∷◌, length, Option, Some, Ok, Err, refl, sym, ap, subst, ◌∙◌, take, drop, zero, false, ltb, inl, inr, arith}
use Rattle.std.proofs.lemmas.Bool.{le-ltb}
use Rattle.std.proofs.lemmas.List.{length-append}
use Rattle.amqp_types.specs.declared.fault.ValueFault.{ValueFault}
use Rattle.amqp_types.specs.declared.code.Code.{Code}
use Rattle.amqp_types.specs.declared.code.Code.TheVariants as codes
use Rattle.amqp_types.specs.declared.code.Scalar.{Scalar}
use Rattle.amqp_types.specs.declared.code.Scalar.TheVariants as scalars
use Rattle.byteorder.specs.Endian.{big_number}
use Rattle.amqp_types.specs.declared.code.Text.TheVariants as texts
use Rattle.amqp_types.specs.declared.code.SizeWidth.TheVariants as widths
use Rattle.amqp_types.specs.Codes.{code_of, takes_any, width_of}
use Rattle.amqp_types.specs.Part.{Part, Described, Seen, Tag, Constructor}
use Rattle.flow_counts.specs.declared.profile.TheConstants.{MAX_DEPTH}
use Rattle.amqp_types.specs.Reading.{Read, data_at, value_at, value_by, coded_at, in_front, with_octets, with_tag, seen_at, element_by, element_at, described_at, scalar_of, octets_at, fixed_at, data_by, text_at, sized_at, is_text}
use Rattle.amqp_types.specs.Items.{behind, is_value, IsPlain, IsPassed}
use Rattle.amqp_types.proofs.Steps.{done}
use Rattle.amqp_types.proofs.Pieces.{in_front_is}
use Rattle.amqp_types.proofs.Values.{seen_found}
use Rattle.amqp_types.proofs.Levels.{data_behind}
use Rattle.amqp_types.proofs.Held.{held_value}

-- what was read in front of a rest
pub behind_found : {A : Type 0} (r : Read A) (rest : List ℕ) → behind r ≡ Ok rest → (x : A) × (r ≡ Ok (x, rest))
behind_found (Ok x) rest e = (x.0, let same : x.1 ≡ rest = cc in rw same refl)
behind_found (Err d) rest e = absurd cc

-- where nothing was read, there is a fault
pub behind_fault : {A : Type 0} (r : Read A) (d : ValueFault) → behind r ≡ Err d → r ≡ Err d
behind_fault (Ok x) d e = absurd cc
behind_fault (Err c) d e = cc

behind_octets : (bytes : List ℕ) (r : Read Part) → behind (with_octets bytes r) ≡ behind r
behind_octets bytes (Ok x) = refl
behind_octets bytes (Err d) = refl

behind_tag : (tag : Option Tag) (bytes : List ℕ) (r : Read Part) → behind (with_tag tag (with_octets bytes r)) ≡ behind r
behind_tag tag bytes (Ok x) = refl
behind_tag tag bytes (Err d) = refl

one_level : (levels at first : ℕ) (code : Code) (bytes : List ℕ) → code_of first ≡ Some code → behind (seen_at (suc levels) at (first ∷ bytes)) ≡ behind (data_at (suc levels) 0 code at bytes)
unfolding seen_at value_at value_by coded_at
one_level levels at first code bytes known = rw known (behind_octets (first ∷ bytes) (data_at (suc levels) 0 code at bytes))

-- a value by its code
pub passes_value : (levels at first : ℕ) (code : Code) (bytes : List ℕ) → 0 < levels → code_of first ≡ Some code → behind (seen_at levels at (first ∷ bytes)) ≡ behind (data_at levels 0 code at bytes)
passes_value levels at first code bytes some known =
    let below : levels ≡ suc (levels - 1) = omega (arith, some) in
    subst (λ (n : ℕ). behind (seen_at n at (first ∷ bytes)) ≡ behind (data_at n 0 code at bytes)) (sym below) (one_level (levels - 1) at first code bytes known)

-- an element by the code behind its descriptors
pub passes_element : (levels : ℕ) (c : Constructor) (at : ℕ) (bytes : List ℕ) → c.tags < levels → behind (element_at levels c at bytes) ≡ behind (data_at (levels - c.tags) 0 c.code at bytes)
unfolding element_at element_by
passes_element levels c at bytes lt = behind_tag c.tag bytes (data_at levels c.tags c.code at bytes) ∙ ap behind (data_behind levels c.tags c.code at bytes lt)

-- the octets of a value are those in front of the rest
pub front_octets : (levels at : ℕ) (bytes : List ℕ) (x : Seen × List ℕ) → seen_at levels at bytes ≡ Ok x → x.0.octets ≡ in_front bytes x.1
front_octets levels at bytes x e =
    let front = seen_found levels at bytes x e in
    sym (ap (λ (t : List ℕ). in_front t x.1) front.parts ∙ in_front_is x.0.octets x.1)

-- what is behind a value is no longer than what was there
pub value_shorter : (levels at : ℕ) (bytes rest : List ℕ) → behind (seen_at levels at bytes) ≡ Ok rest → length rest ≤ length bytes
value_shorter levels at bytes rest e =
    let x = behind_found (seen_at levels at bytes) rest e in
    let front = seen_found levels at bytes (x.0, rest) x.1 in
    omega (arith, ap length front.parts, length-append x.0.octets rest)

-- the octets of a value that was passed over are one
pub front_held : (levels at : ℕ) (bytes rest : List ℕ) → levels ≤ MAX_DEPTH → behind (seen_at levels at bytes) ≡ Ok rest → is_value (in_front bytes rest) ≡ true
front_held levels at bytes rest le e =
    let x = behind_found (seen_at levels at bytes) rest e in
    subst (λ (t : List ℕ). is_value t ≡ true) (front_octets levels at bytes (x.0, rest) x.1) (held_value levels at bytes (x.0, rest) le x.1)

-- a descriptor at fault
pub descriptor_fault : (levels at : ℕ) (bytes : List ℕ) (d : ValueFault) → behind (seen_at levels (at + 1) bytes) ≡ Err d → described_at (seen_at levels) at bytes ≡ Err d
unfolding described_at
descriptor_fault levels at bytes d e = rw (behind_fault (seen_at levels (at + 1) bytes) d e) refl

-- a value at fault that a descriptor describes
pub described_fault : (levels at : ℕ) (bytes rest : List ℕ) (d : ValueFault) → behind (seen_at levels (at + 1) bytes) ≡ Ok rest
    → behind (seen_at levels (at + 1 + length (in_front bytes rest)) rest) ≡ Err d → described_at (seen_at levels) at bytes ≡ Err d
unfolding described_at
described_fault levels at bytes rest d e failed =
    let x = behind_found (seen_at levels (at + 1) bytes) rest e in
    let place : seen_at levels (at + 1 + length x.0.octets) rest ≡ Err d =
    ap (λ (t : List ℕ). seen_at levels (at + 1 + length t) rest) (front_octets levels (at + 1) bytes (x.0, rest) x.1)
    ∙ behind_fault (seen_at levels (at + 1 + length (in_front bytes rest)) rest) d failed in
    rw (x.1, place) refl

-- a descriptor and the value that it describes, both passed over
pub described_passed : (levels at : ℕ) (bytes mid rest : List ℕ) → behind (seen_at levels (at + 1) bytes) ≡ Ok mid
    → behind (seen_at levels (at + 1 + length (in_front bytes mid)) mid) ≡ Ok rest → described_at (seen_at levels) at bytes ≡ Ok (Described (in_front bytes mid) (in_front mid rest), rest)
unfolding described_at
described_passed levels at bytes mid rest e f =
    let x = behind_found (seen_at levels (at + 1) bytes) mid e in
    let octets = front_octets levels (at + 1) bytes (x.0, mid) x.1 in
    let y = behind_found (seen_at levels (at + 1 + length (in_front bytes mid)) mid) rest f in
    let place : seen_at levels (at + 1 + length x.0.octets) mid ≡ Ok (y.0, rest) = ap (λ (t : List ℕ). seen_at levels (at + 1 + length t) mid) octets ∙ y.1 in
    let others = front_octets levels (at + 1 + length (in_front bytes mid)) mid (y.0, rest) y.1 in
    rw (x.1, place) (ap (λ (t : List ℕ). done {A = Part × List ℕ} (Described t y.0.octets, rest)) octets ∙ ap (λ (t : List ℕ). done {A = Part × List ℕ} (Described (in_front bytes mid) t, rest)) others)

-- what any octets say
any_said : (scalar : Scalar) (octets : List ℕ) → takes_any scalar ≡ true → (part : Part) × (scalar_of scalar octets ≡ Ok part)
unfolding scalar_of
any_said scalars.Null octets any = (_, refl)
any_said scalars.True octets any = (_, refl)
any_said scalars.False octets any = (_, refl)
any_said scalars.Ubyte octets any = (_, refl)
any_said scalars.Ushort octets any = (_, refl)
any_said scalars.UintZero octets any = (_, refl)
any_said scalars.UintOctet octets any = (_, refl)
any_said scalars.Uint octets any = (_, refl)
any_said scalars.UlongZero octets any = (_, refl)
any_said scalars.UlongOctet octets any = (_, refl)
any_said scalars.Ulong octets any = (_, refl)
any_said scalars.Byte octets any = (_, refl)
any_said scalars.Short octets any = (_, refl)
any_said scalars.IntOctet octets any = (_, refl)
any_said scalars.Int octets any = (_, refl)
any_said scalars.LongOctet octets any = (_, refl)
any_said scalars.Long octets any = (_, refl)
any_said (scalars.Opaque opaque) octets any = (_, refl)
any_said scalars.Boolean octets any = absurd cc

octets_there : (n at : ℕ) (bytes : List ℕ) → n ≤ length bytes → octets_at n at bytes ≡ Ok (take n bytes, drop n bytes)
unfolding octets_at
octets_there n at bytes long = let enough : ltb (length bytes) n ≡ false = le-ltb _ _ long in rw enough refl

fixed_passed : (scalar : Scalar) (at : ℕ) (bytes : List ℕ) → takes_any scalar ≡ true → width_of scalar ≤ length bytes → behind (fixed_at scalar at bytes) ≡ Ok (drop (width_of scalar) bytes)
unfolding fixed_at
fixed_passed scalar at bytes any long = rw (octets_there (width_of scalar) at bytes long, (any_said scalar (take (width_of scalar) bytes) any).1) refl

fixed_data : (levels at : ℕ) (scalar : Scalar) (bytes : List ℕ) → data_at (suc levels) zero (codes.Fixed scalar) at bytes ≡ fixed_at scalar at bytes
unfolding data_at data_by
fixed_data levels at scalar bytes = refl

passed_by : (levels at first : ℕ) (scalar : Scalar) (bytes : List ℕ) → code_of first ≡ Some (codes.Fixed scalar) → takes_any scalar ≡ true → width_of scalar ≤ length bytes
    → behind (seen_at (suc levels) at (first ∷ bytes)) ≡ Ok (drop (width_of scalar) bytes)
passed_by levels at first scalar bytes known any long =
    one_level levels at first (codes.Fixed scalar) bytes known ∙ ap behind (fixed_data levels at scalar bytes) ∙ fixed_passed scalar at bytes any long

-- by the code and how many octets are behind the first
passed_as : (bytes : List ℕ) (first width : ℕ) (behind_first : List ℕ) → bytes ≡ first ∷ behind_first
    → ((levels at : ℕ) → behind (seen_at (suc levels) at (first ∷ behind_first)) ≡ Ok (drop width behind_first)) → IsPassed bytes (drop width behind_first)
unfolding IsPassed
passed_as bytes first width behind_first same passed = λ levels at some.
    let below : levels ≡ suc (levels - 1) = omega (arith, some) in
    let here : behind (seen_at levels at (first ∷ behind_first)) ≡ Ok (drop width behind_first) =
    subst (λ (n : ℕ). behind (seen_at n at (first ∷ behind_first)) ≡ Ok (drop width behind_first)) (sym below) (passed (levels - 1) at) in
    subst (λ (t : List ℕ). behind (seen_at levels at t) ≡ Ok (drop width behind_first)) (sym same) here

-- a list without items
empty_passed : (levels at first : ℕ) (bytes : List ℕ) → code_of first ≡ Some codes.EmptyList → behind (seen_at (suc levels) at (first ∷ bytes)) ≡ Ok bytes
unfolding data_at data_by
empty_passed levels at first bytes known = one_level levels at first codes.EmptyList bytes known

-- the code of a type of fixed width tells how many octets are behind it, where any may be the data
pub fixed_plain : (first : ℕ) (scalar : Scalar) → code_of first ≡ Some (codes.Fixed scalar) → takes_any scalar ≡ true → IsPlain first (width_of scalar)
unfolding IsPlain
fixed_plain first scalar known any = inr (scalar, known, any, refl)

-- the empty list has no octets behind its code
pub empty_plain : (first : ℕ) → code_of first ≡ Some codes.EmptyList → IsPlain first 0
unfolding IsPlain
empty_plain first known = inl (known, refl)

-- what is behind a value whose first octet says how long it is
pub plain_passed : (bytes : List ℕ) (first width : ℕ) (behind_first : List ℕ) → bytes ≡ first ∷ behind_first → IsPlain first width → width ≤ length behind_first → IsPassed bytes (drop width behind_first)
unfolding IsPlain
plain_passed bytes first width behind_first same (inl empty) long =
    subst (λ (n : ℕ). IsPassed bytes (drop n behind_first)) (sym empty.1) (passed_as bytes first 0 behind_first same (λ levels at. empty_passed levels at first behind_first empty.0))
plain_passed bytes first width behind_first same (inr plain) long =
    let wide : width_of plain.0 ≤ length behind_first = subst (λ (n : ℕ). n ≤ length behind_first) (sym plain.3) long in
    subst (λ (n : ℕ). IsPassed bytes (drop n behind_first)) plain.3
    (passed_as bytes first (width_of plain.0) behind_first same (λ levels at. passed_by levels at first plain.0 behind_first plain.1 plain.2 wide))

-- behind a value that lies somewhere
pub passed_here : (levels at : ℕ) (bytes rest : List ℕ) → 0 < levels → IsPassed bytes rest → behind (seen_at levels at bytes) ≡ Ok rest
unfolding IsPassed
passed_here levels at bytes rest some passed = passed levels at some

octet_alone : (n : ℕ) → big_number 1 (n ∷ []) ≡ n
octet_alone n = search rules

binary_by : (levels at n : ℕ) (more : List ℕ) → n ≤ length more → behind (seen_at (suc levels) at (0xA0 ∷ n ∷ more)) ≡ Ok (drop n more)
unfolding data_at data_by text_at sized_at is_text code_of
binary_by levels at n more long =
    one_level levels at 0xA0 (codes.Sized texts.Binary widths.One) (n ∷ more) refl
    ∙ rw (octets_there 1 at (n ∷ more) (omega arith), octet_alone n, octets_there n at more long) refl

-- what is behind a binary whose size has one octet
pub binary_passed : (bytes sized : List ℕ) (first n : ℕ) (more : List ℕ) → bytes ≡ first ∷ sized → sized ≡ n ∷ more → first ≡ 0xA0 → n ≤ length more → IsPassed bytes (drop n more)
unfolding IsPassed
binary_passed bytes sized first n more whole behind_first code long = λ levels at some.
    let below : levels ≡ suc (levels - 1) = omega (arith, some) in
    let same : bytes ≡ 0xA0 ∷ n ∷ more = whole ∙ ap (λ (b : ℕ). b ∷ sized) code ∙ ap (λ (t : List ℕ). 0xA0 ∷ t) behind_first in
    let here : behind (seen_at levels at (0xA0 ∷ n ∷ more)) ≡ Ok (drop n more) =
    subst (λ (l : ℕ). behind (seen_at l at (0xA0 ∷ n ∷ more)) ≡ Ok (drop n more)) (sym below) (binary_by (levels - 1) at n more long) in
    subst (λ (t : List ℕ). behind (seen_at levels at t) ≡ Ok (drop n more)) (sym same) here
