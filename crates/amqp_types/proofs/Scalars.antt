-- The data of types of fixed width, and text.
use Rattle.std.proofs.Common.{◌≡◌, ℕ, true, false, cond, eqb, List, [], ◌∷◌, length, Result, Ok, Err, refl, sym, ap, ◌∙◌, inl, inr, arith}
use Rattle.std.specs.Prelude.{◌⊎◌}
use Rattle.std.proofs.lemmas.Bool.{eqb-true}
use Rattle.std.specs.Int.{w8, w16, w32, w64, cast_signed}
use Rattle.byteorder.specs.Endian.{big_number}
use Rattle.amqp_types.specs.declared.fault.ValueFaultKind.{ValueFaultKind}
use Rattle.amqp_types.specs.declared.fault.ValueFaultKind.TheVariants.{BadBoolean}
use Rattle.amqp_types.specs.declared.code.Scalar.{Scalar}
use Rattle.amqp_types.specs.declared.code.Scalar.TheVariants as scalars
use Rattle.amqp_types.specs.Codes.{width_of}
use Rattle.amqp_types.specs.Part as parts
use Rattle.amqp_types.specs.Part.{Part, Null, Boolean, Ubyte, Ushort, Uint, Ulong, Kept}
use Rattle.amqp_types.specs.Reading.{scalar_of, boolean_of}
use Rattle.amqp_types.specs.Grammar.{IsNumber, IsScalar}
use Rattle.amqp_types.proofs.Steps.{chosen}

abbrev said : Part → Result Part ValueFaultKind
said part = Ok part

said_is : (p q : Part) → said p ≡ said q → q ≡ p
said_is p q e = cc

failed : (kind : ValueFaultKind) (part : Part) → Err kind ≡ said part → ⊥
failed kind part e = cc

nothing : (octets : List ℕ) → length octets ≡ 0 → octets ≡ []
nothing [] e = refl
nothing (b ∷ octets) e = absurd (omega arith)

one_octet : (octets : List ℕ) (n : ℕ) → length octets ≡ 1 → big_number 1 octets ≡ n → octets ≡ n ∷ []
one_octet [] n e h = absurd (omega arith)
one_octet (b ∷ []) n e h = ap (λ (x : ℕ). x ∷ []) (omega (arith, h))
one_octet (b ∷ c ∷ octets) n e h = absurd (omega arith)

boolean_found : (n : ℕ) (part : Part) → boolean_of n ≡ Ok part → ((n ≡ 0) × (part ≡ Boolean false)) ⊎ ((n ≡ 1) × (part ≡ Boolean true))
boolean_found n part e =
    elim (chosen (eqb n 0) (said (Boolean false)) (cond (eqb n 1) (said (Boolean true)) (Err BadBoolean)) (Ok part) e) [
      | inl h ↦ inl (eqb-true n 0 h.0, said_is (Boolean false) part h.1)
      | inr h ↦ elim (chosen (eqb n 1) (said (Boolean true)) (Err BadBoolean) (Ok part) h.1) [
        | inl k ↦ inr (eqb-true n 1 k.0, said_is (Boolean true) part k.1)
        | inr k ↦ absurd (failed BadBoolean part k.1)
      ]
    ]

pub scalar_found : (scalar : Scalar) (octets : List ℕ) (part : Part) → length octets ≡ width_of scalar → scalar_of scalar octets ≡ Ok part → IsScalar scalar octets part
unfolding scalar_of
scalar_found scalars.Null octets part len e = (nothing octets len, said_is Null part e)
scalar_found scalars.True octets part len e = (nothing octets len, said_is (Boolean true) part e)
scalar_found scalars.False octets part len e = (nothing octets len, said_is (Boolean false) part e)
scalar_found scalars.Boolean octets part len e =
    elim (boolean_found (big_number 1 octets) part e) [
      | inl h ↦ inl (one_octet octets 0 len h.0, h.1)
      | inr h ↦ inr (one_octet octets 1 len h.0, h.1)
    ]
scalar_found scalars.Ubyte octets part len e = (big_number 1 octets, record { len = len; says = refl }, said_is (Ubyte (big_number 1 octets)) part e)
scalar_found scalars.Ushort octets part len e = (big_number 2 octets, record { len = len; says = refl }, said_is (Ushort (big_number 2 octets)) part e)
scalar_found scalars.UintZero octets part len e = (nothing octets len, said_is (Uint 0) part e)
scalar_found scalars.UintOctet octets part len e = (big_number 1 octets, record { len = len; says = refl }, said_is (Uint (big_number 1 octets)) part e)
scalar_found scalars.Uint octets part len e = (big_number 4 octets, record { len = len; says = refl }, said_is (Uint (big_number 4 octets)) part e)
scalar_found scalars.UlongZero octets part len e = (nothing octets len, said_is (Ulong 0) part e)
scalar_found scalars.UlongOctet octets part len e = (big_number 1 octets, record { len = len; says = refl }, said_is (Ulong (big_number 1 octets)) part e)
scalar_found scalars.Ulong octets part len e = (big_number 8 octets, record { len = len; says = refl }, said_is (Ulong (big_number 8 octets)) part e)
scalar_found scalars.Byte octets part len e = (big_number 1 octets, record { len = len; says = refl }, said_is (parts.Byte (cast_signed w8 (big_number 1 octets))) part e)
scalar_found scalars.Short octets part len e = (big_number 2 octets, record { len = len; says = refl }, said_is (parts.Short (cast_signed w16 (big_number 2 octets))) part e)
scalar_found scalars.IntOctet octets part len e = (big_number 1 octets, record { len = len; says = refl }, said_is (parts.Int (cast_signed w8 (big_number 1 octets))) part e)
scalar_found scalars.Int octets part len e = (big_number 4 octets, record { len = len; says = refl }, said_is (parts.Int (cast_signed w32 (big_number 4 octets))) part e)
scalar_found scalars.LongOctet octets part len e = (big_number 1 octets, record { len = len; says = refl }, said_is (parts.Long (cast_signed w8 (big_number 1 octets))) part e)
scalar_found scalars.Long octets part len e = (big_number 8 octets, record { len = len; says = refl }, said_is (parts.Long (cast_signed w64 (big_number 8 octets))) part e)
scalar_found (scalars.Opaque opaque) octets part len e = (len, said_is (Kept opaque octets) part e)

-- what the data of a type of fixed width is read as
pub record IsRead (scalar : Scalar) (octets : List ℕ) (part : Part) : Type 0 where
  pub len : length octets ≡ width_of scalar
  pub says : scalar_of scalar octets ≡ Ok part

empty_read : (scalar : Scalar) (octets : List ℕ) (p part : Part) → width_of scalar ≡ 0 → scalar_of scalar [] ≡ Ok p → (octets ≡ []) × (part ≡ p) → IsRead scalar octets part
empty_read scalar octets p part width says h = rw (h.0, h.1) (record { len = sym width; says = says })

number_read : (scalar : Scalar) (width : ℕ) (octets : List ℕ) (make : ℕ → Part) (part : Part) → width_of scalar ≡ width → scalar_of scalar octets ≡ Ok (make (big_number width octets))
    → (n : ℕ) × IsNumber width octets n × (part ≡ make n) → IsRead scalar octets part
number_read scalar width octets make part e says h =
    record { len = h.1.len ∙ sym e; says = says ∙ ap (λ (m : ℕ). said (make m)) h.1.says ∙ ap said (sym h.2) }

pub scalar_again : (scalar : Scalar) (octets : List ℕ) (part : Part) → IsScalar scalar octets part → IsRead scalar octets part
unfolding scalar_of
scalar_again scalars.Null octets part h = empty_read scalars.Null octets Null part refl refl h
scalar_again scalars.True octets part h = empty_read scalars.True octets (Boolean true) part refl refl h
scalar_again scalars.False octets part h = empty_read scalars.False octets (Boolean false) part refl refl h
scalar_again scalars.Boolean octets part (inl h) = rw (h.0, h.1) (record { len = refl; says = refl })
scalar_again scalars.Boolean octets part (inr h) = rw (h.0, h.1) (record { len = refl; says = refl })
scalar_again scalars.Ubyte octets part h = number_read scalars.Ubyte 1 octets (λ n. Ubyte n) part refl refl h
scalar_again scalars.Ushort octets part h = number_read scalars.Ushort 2 octets (λ n. Ushort n) part refl refl h
scalar_again scalars.UintZero octets part h = empty_read scalars.UintZero octets (Uint 0) part refl refl h
scalar_again scalars.UintOctet octets part h = number_read scalars.UintOctet 1 octets (λ n. Uint n) part refl refl h
scalar_again scalars.Uint octets part h = number_read scalars.Uint 4 octets (λ n. Uint n) part refl refl h
scalar_again scalars.UlongZero octets part h = empty_read scalars.UlongZero octets (Ulong 0) part refl refl h
scalar_again scalars.UlongOctet octets part h = number_read scalars.UlongOctet 1 octets (λ n. Ulong n) part refl refl h
scalar_again scalars.Ulong octets part h = number_read scalars.Ulong 8 octets (λ n. Ulong n) part refl refl h
scalar_again scalars.Byte octets part h = number_read scalars.Byte 1 octets (λ n. parts.Byte (cast_signed w8 n)) part refl refl h
scalar_again scalars.Short octets part h = number_read scalars.Short 2 octets (λ n. parts.Short (cast_signed w16 n)) part refl refl h
scalar_again scalars.IntOctet octets part h = number_read scalars.IntOctet 1 octets (λ n. parts.Int (cast_signed w8 n)) part refl refl h
scalar_again scalars.Int octets part h = number_read scalars.Int 4 octets (λ n. parts.Int (cast_signed w32 n)) part refl refl h
scalar_again scalars.LongOctet octets part h = number_read scalars.LongOctet 1 octets (λ n. parts.Long (cast_signed w8 n)) part refl refl h
scalar_again scalars.Long octets part h = number_read scalars.Long 8 octets (λ n. parts.Long (cast_signed w64 n)) part refl refl h
scalar_again (scalars.Opaque opaque) octets part h = record { len = h.0; says = ap said (sym h.1) }
