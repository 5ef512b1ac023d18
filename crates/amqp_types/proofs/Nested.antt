-- What is nested in a value of the grammar is a value too, or values.
use Rattle.std.proofs.Common.{◌≡◌, refl, sym, ap, subst, ◌∙◌, ℕ, zero, suc, ◌≤◌, Bool, true, false, None, List, [], ◌∷◌, inl, inr, arith}
use Rattle.std.proofs.lemmas.List.{append-nil}
use Rattle.amqp_types.specs.declared.code.Scalar.{Scalar}
use Rattle.amqp_types.specs.declared.code.Scalar.TheVariants as scalars
use Rattle.amqp_types.specs.declared.code.Kind.{Kind}
use Rattle.amqp_types.specs.declared.code.Code.{Code}
use Rattle.amqp_types.specs.declared.code.Code.TheVariants as codes
use Rattle.amqp_types.specs.Part.{Part, Nested, Array, Described, Tagged}
use Rattle.amqp_types.specs.Reading.{seen_at}
use Rattle.flow_counts.specs.declared.profile.TheConstants.{MAX_DEPTH}
use Rattle.amqp_types.specs.Items.{seen_in, seen_of, are_items}
use Rattle.amqp_types.specs.Grammar.{IsScalar, IsData, IsValue, AreValuesOf}
use Rattle.amqp_types.proofs.Values.{seen_again}
use Rattle.amqp_types.proofs.Deeper.{value_deeper, values_deeper}
use Rattle.amqp_types.proofs.Held.{whole_is, are_from_items, are_values_of}

-- a value that octets are, nested no deeper than allowed
pub record HasValue (octets : List ℕ) : Type 0 where
  pub says : Part
  pub is : IsValue MAX_DEPTH octets says

-- whether a value holds no other
abbrev is_alone : Part → Bool
is_alone (Nested kind n body) = false
is_alone (Array form n body) = false
is_alone (Described descriptor described) = false
is_alone (Tagged descriptor constructor octets) = false
is_alone other = true

-- a value of fixed width holds no other
scalar_alone : (scalar : Scalar) (octets : List ℕ) (part : Part) → IsScalar scalar octets part → is_alone part ≡ true
scalar_alone scalars.Null octets part h = rw h.1 refl
scalar_alone scalars.True octets part h = rw h.1 refl
scalar_alone scalars.False octets part h = rw h.1 refl
scalar_alone scalars.Boolean octets part (inl h) = rw h.1 refl
scalar_alone scalars.Boolean octets part (inr h) = rw h.1 refl
scalar_alone scalars.Ubyte octets part h = rw h.2 refl
scalar_alone scalars.Ushort octets part h = rw h.2 refl
scalar_alone scalars.UintZero octets part h = rw h.1 refl
scalar_alone scalars.UintOctet octets part h = rw h.2 refl
scalar_alone scalars.Uint octets part h = rw h.2 refl
scalar_alone scalars.UlongZero octets part h = rw h.1 refl
scalar_alone scalars.UlongOctet octets part h = rw h.2 refl
scalar_alone scalars.Ulong octets part h = rw h.2 refl
scalar_alone scalars.Byte octets part h = rw h.2 refl
scalar_alone scalars.Short octets part h = rw h.2 refl
scalar_alone scalars.IntOctet octets part h = rw h.2 refl
scalar_alone scalars.Int octets part h = rw h.2 refl
scalar_alone scalars.LongOctet octets part h = rw h.2 refl
scalar_alone scalars.Long octets part h = rw h.2 refl
scalar_alone (scalars.Opaque opaque) octets part h = rw h.1 refl

pub scalar_is_no_pair : (scalar : Scalar) (octets descriptor described : List ℕ) → IsScalar scalar octets (Described descriptor described) → ⊥
scalar_is_no_pair scalar octets descriptor described h = let e : false ≡ true = scalar_alone scalar octets (Described descriptor described) h in cc

pub scalar_is_no_list : (scalar : Scalar) (octets : List ℕ) (kind : Kind) (n : ℕ) (body : List ℕ) → IsScalar scalar octets (Nested kind n body) → ⊥
scalar_is_no_list scalar octets kind n body h = let e : false ≡ true = scalar_alone scalar octets (Nested kind n body) h in cc

has_value : (levels : ℕ) (octets whole : List ℕ) (part : Part) → levels ≤ MAX_DEPTH → octets ≡ whole → IsValue levels octets part → HasValue whole
has_value levels octets whole part le same is =
    record { says = part; is = subst (λ o. IsValue MAX_DEPTH o part) same (value_deeper levels MAX_DEPTH octets part le is) }

pair_data : (levels : ℕ) (code : Code) (octets descriptor described : List ℕ) → levels ≤ MAX_DEPTH → IsData levels zero code octets (Described descriptor described) → HasValue descriptor × HasValue described
unfolding IsData IsValue
pair_data zero code octets descriptor described le h = absurd h
pair_data (suc levels) (codes.Fixed scalar) octets descriptor described le h = absurd (scalar_is_no_pair scalar octets descriptor described h)
pair_data (suc levels) (codes.Sized text width) octets descriptor described le h = let e = h.3 in absurd cc
pair_data (suc levels) codes.EmptyList octets descriptor described le h = let e = h.1 in absurd cc
pair_data (suc levels) (codes.Nested kind width) octets descriptor described le h = let e = h.is in absurd cc
pair_data (suc levels) (codes.Array width) octets descriptor described le h = absurd (elim h.elements [
  | inl k ↦ let e = k.2 in cc
  | inr k ↦ let e = k.is in cc
])
pair_data (suc levels) codes.Described octets descriptor described le h =
    let e = h.is in
    let first : h.descriptor ≡ descriptor = cc in
    let second : h.described ≡ described = cc in
    (has_value levels h.descriptor descriptor h.descriptor_says (omega arith) first h.descriptor_is, has_value levels h.described described h.described_says (omega arith) second h.described_is)

list_data : (levels : ℕ) (code : Code) (octets : List ℕ) (kind : Kind) (n : ℕ) (body : List ℕ) → levels ≤ MAX_DEPTH → IsData levels zero code octets (Nested kind n body) → are_items None n body ≡ true
unfolding IsData IsValue
list_data zero code octets kind n body le h = absurd h
list_data (suc levels) (codes.Fixed scalar) octets kind n body le h = absurd (scalar_is_no_list scalar octets kind n body h)
list_data (suc levels) (codes.Sized text width) octets kind n body le h = let e = h.3 in absurd cc
list_data (suc levels) codes.EmptyList octets kind n body le h =
    let e = h.1 in
    let count : n ≡ 0 = cc in
    let none : body ≡ [] = cc in
    rw (count, none) (are_from_items None 0 [] refl)
list_data (suc levels) (codes.Nested own width) octets kind n body le h =
    let e = h.is in
    let count : h.n ≡ n = cc in
    let all : h.body ≡ body = cc in
    subst (λ k. are_items None k body ≡ true) count (subst (λ o. are_items None h.n o ≡ true) all (are_from_items None h.n h.body (values_deeper levels MAX_DEPTH None h.n h.body (omega arith) h.items)))
list_data (suc levels) (codes.Array width) octets kind n body le h = absurd (elim h.elements [
  | inl k ↦ let e = k.2 in cc
  | inr k ↦ let e = k.is in cc
])
list_data (suc levels) codes.Described octets kind n body le h = let e = h.is in absurd cc

tagged_data : (levels : ℕ) (code : Code) (octets descriptor constructor own : List ℕ) → IsData levels zero code octets (Tagged descriptor constructor own) → ⊥
unfolding IsData
tagged_data zero code octets descriptor constructor own h = h
tagged_data (suc levels) (codes.Fixed scalar) octets descriptor constructor own h =
    let e : false ≡ true = scalar_alone scalar octets (Tagged descriptor constructor own) h in absurd cc
tagged_data (suc levels) (codes.Sized text width) octets descriptor constructor own h = let e = h.3 in cc
tagged_data (suc levels) codes.EmptyList octets descriptor constructor own h = let e = h.1 in cc
tagged_data (suc levels) (codes.Nested kind width) octets descriptor constructor own h = let e = h.is in cc
tagged_data (suc levels) (codes.Array width) octets descriptor constructor own h = elim h.elements [
  | inl k ↦ let e = k.2 in cc
  | inr k ↦ let e = k.is in cc
]
tagged_data (suc levels) codes.Described octets descriptor constructor own h = let e = h.is in cc

-- a value with its own constructor is no element of an array
pub not_tagged : (octets descriptor constructor own : List ℕ) → IsValue MAX_DEPTH octets (Tagged descriptor constructor own) → ⊥
unfolding IsValue
not_tagged [] descriptor constructor own h = h
not_tagged (b ∷ octets) descriptor constructor own h = tagged_data MAX_DEPTH h.0 octets descriptor constructor own h.2

-- a descriptor and what it describes are values
pub pair_holds : (octets descriptor described : List ℕ) → IsValue MAX_DEPTH octets (Described descriptor described) → HasValue descriptor × HasValue described
unfolding IsValue
pair_holds [] descriptor described h = absurd h
pair_holds (b ∷ octets) descriptor described h = pair_data MAX_DEPTH h.0 octets descriptor described (omega arith) h.2

-- the items of a list are values
pub list_holds : (octets : List ℕ) (kind : Kind) (n : ℕ) (body : List ℕ) → IsValue MAX_DEPTH octets (Nested kind n body) → AreValuesOf n body (seen_in n body)
unfolding IsValue
list_holds [] kind n body h = absurd h
list_holds (b ∷ octets) kind n body h = are_values_of n body (list_data MAX_DEPTH h.0 octets kind n body (omega arith) h.2)

-- a value is read as what it is
pub value_is : (octets : List ℕ) (part : Part) → IsValue MAX_DEPTH octets part → seen_of octets ≡ record { octets = octets; part = part }
value_is octets part is = whole_is octets (record { octets = octets; part = part }, []) (ap (seen_at MAX_DEPTH 0) (sym (append-nil octets)) ∙ seen_again MAX_DEPTH 0 octets [] part is)
