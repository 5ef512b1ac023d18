-- What values say by the codes of their first octets.
use Rattle.std.proofs.Common.{◌≡◌, refl, subst, inl, inr, ℕ, Bool, true, false, cond, List, [], ◌∷◌, Option, Some, None, Result, Ok, Err}
use Rattle.std.specs.Prelude.{◌==◌, ◌⊎◌}
use Rattle.byteorder.specs.Endian.{big_number}
use Rattle.flow_counts.specs.declared.profile.TheConstants.{MAX_DEPTH}
use Rattle.amqp_types.specs.declared.fault.ValueFaultKind.{ValueFaultKind}
use Rattle.amqp_types.specs.declared.fault.ValueFaultKind.TheVariants.{BadBoolean}
use Rattle.amqp_types.specs.declared.code.Scalar.{Scalar}
use Rattle.amqp_types.specs.declared.code.Scalar.TheVariants as scalars
use Rattle.amqp_types.specs.declared.code.Kind.TheVariants as kinds
use Rattle.amqp_types.specs.declared.code.Code.{Code}
use Rattle.amqp_types.specs.declared.code.Code.TheVariants as codes
use Rattle.amqp_types.specs.Codes.{code_of, width_of}
use Rattle.amqp_types.specs.Part.{Part, Null, Boolean, Sized, Nested, Array, Described, Tagged, Constructor}
use Rattle.amqp_types.specs.Reading.{◌>>=◌, Read, placed, scalar_of, fixed_at, octets_at, data_at, data_by, value_at, value_by, coded_at, with_octets, seen_at}
use Rattle.amqp_types.specs.Items.{seen_of, seen_or_null}
use Rattle.amqp_types.specs.Grammar.{IsData}
use Rattle.amqp_types.proofs.Steps.{ok_is, bind_ok}
use Rattle.amqp_types.proofs.Values.{data_found}

-- what was read, or null
abbrev pub part_read : Read Part → Part
part_read (Ok x) = x.0
part_read (Err d) = Null

-- what was read behind a code, or null where it is none
abbrev pub part_behind : Option Code → List ℕ → Part
part_behind None bytes = Null
part_behind (Some code) bytes = part_read (data_at MAX_DEPTH 0 code 0 bytes)

part_seen : (bytes : List ℕ) (r : Read Part) → (seen_or_null bytes (with_octets bytes r)).part ≡ part_read r
part_seen bytes (Ok x) = refl
part_seen bytes (Err d) = refl

coded_part : (bytes rest : List ℕ) (code : Option Code) → (seen_or_null bytes (with_octets bytes (coded_at (data_at MAX_DEPTH 0) 0 rest code))).part ≡ part_behind code rest
unfolding coded_at
coded_part bytes rest None = refl
coded_part bytes rest (Some code) = part_seen bytes (data_at MAX_DEPTH 0 code 0 rest)

-- what octets say that begin with this one
pub seen_part : (first : ℕ) (rest : List ℕ) → (seen_of (first ∷ rest)).part ≡ part_behind (code_of first) rest
unfolding seen_of seen_at value_at value_by
seen_part first rest = coded_part (first ∷ rest) rest (code_of first)

pub seen_nothing : (seen_of []).part ≡ Null
unfolding seen_of seen_at value_at value_by
seen_nothing = refl

-- a value that holds no others, and no text
abbrev pub is_plain : Part → Bool
is_plain (Sized text octets) = false
is_plain (Nested kind n octets) = false
is_plain (Array form n octets) = false
is_plain (Described descriptor described) = false
is_plain (Tagged descriptor constructor octets) = false
is_plain other = true

abbrev said : Part → Result Part ValueFaultKind
said part = Ok part

said_is : (p q : Part) → said p ≡ said q → p ≡ q
said_is p q e = cc

boolean_plain : (a b : Bool) (part : Part) → cond a (Ok (Boolean false)) (cond b (Ok (Boolean true)) (Err BadBoolean)) ≡ Ok part → is_plain part ≡ true
boolean_plain true b part e = subst (λ (p : Part). is_plain p ≡ true) (said_is (Boolean false) part e) refl
boolean_plain false true part e = subst (λ (p : Part). is_plain p ≡ true) (said_is (Boolean true) part e) refl
boolean_plain false false part e = absurd cc

scalar_plain : (scalar : Scalar) (octets : List ℕ) (part : Part) → scalar_of scalar octets ≡ Ok part → is_plain part ≡ true
unfolding scalar_of
scalar_plain scalars.Boolean octets part e = boolean_plain (big_number 1 octets == 0) (big_number 1 octets == 1) part e
scalar_plain other octets part e = subst (λ (p : Part). is_plain p ≡ true) (said_is _ part e) refl

placed_ok : (at : ℕ) (r : Result Part ValueFaultKind) (part : Part) → placed at r ≡ Ok part → r ≡ Ok part
placed_ok at (Ok p) part e = cc
placed_ok at (Err kind) part e = absurd cc

fixed_plain : (scalar : Scalar) (bytes : List ℕ) (x : Part × List ℕ) → fixed_at scalar 0 bytes ≡ Ok x → is_plain x.0 ≡ true
unfolding fixed_at
fixed_plain scalar bytes x e =
    let a = bind_ok (octets_at (width_of scalar) 0 bytes) (λ octets. placed 0 (scalar_of scalar octets.0) >>= λ part. Ok (part, octets.1)) x e in
    let b = bind_ok (placed 0 (scalar_of scalar a.0.0)) (λ part. Ok (part, a.0.1)) x a.2 in
    let same = ok_is (b.0, a.0.1) x b.2 in
    subst (λ (y : Part × List ℕ). is_plain y.0 ≡ true) same (scalar_plain scalar a.0.0 b.0 (placed_ok 0 (scalar_of scalar a.0.0) b.0 b.1))

-- what a value may say behind a code
abbrev pub IsLike : Code → Part → Type 0
IsLike (codes.Fixed scalar) part = is_plain part ≡ true
IsLike (codes.Sized text width) part = (octets : List ℕ) × (part ≡ Sized text octets)
IsLike codes.EmptyList part = part ≡ Nested kinds.List 0 []
IsLike (codes.Nested kind width) part = (n : ℕ) × (body : List ℕ) × (part ≡ Nested kind n body)
IsLike (codes.Array width) part = (form : Option Constructor) × (n : ℕ) × (body : List ℕ) × (part ≡ Array form n body)
IsLike codes.Described part = (descriptor : List ℕ) × (described : List ℕ) × (part ≡ Described descriptor described)

either : {X Y Z : Type 0} → (X → Z) → (Y → Z) → X ⊎ Y → Z
either f g (inl x) = f x
either f g (inr y) = g y

pub like : (code : Code) (bytes : List ℕ) (x : Part × List ℕ) → data_at MAX_DEPTH 0 code 0 bytes ≡ Ok x → IsLike code x.0
unfolding IsData data_at data_by
like (codes.Fixed scalar) bytes x e = fixed_plain scalar bytes x e
like (codes.Sized text width) bytes x e = let is = (data_found MAX_DEPTH 0 (codes.Sized text width) 0 bytes x e).is in (is.0, is.3)
like codes.EmptyList bytes x e = (data_found MAX_DEPTH 0 codes.EmptyList 0 bytes x e).is.1
like (codes.Nested kind width) bytes x e = let is = (data_found MAX_DEPTH 0 (codes.Nested kind width) 0 bytes x e).is in (is.n, is.body, is.is)
like (codes.Array width) bytes x e =
    let is = (data_found MAX_DEPTH 0 (codes.Array width) 0 bytes x e).is in
    either (λ empty. (None, 0, [], empty.2)) (λ elements. (Some elements.constructor, is.n, elements.elements, elements.is)) is.elements
like codes.Described bytes x e = let is = (data_found MAX_DEPTH 0 codes.Described 0 bytes x e).is in (is.descriptor, is.described, is.is)

-- a question that has no answer wherever a value is like that
pub unlike : {X : Type 0} (f : Part → Option X) (code : Code) (bytes : List ℕ) → f Null ≡ None → ((part : Part) → IsLike code part → f part ≡ None) → f (part_behind (Some code) bytes) ≡ None
unlike f code bytes null none = way (data_at MAX_DEPTH 0 code 0 bytes) refl
  where
    way : (r : Read Part) → data_at MAX_DEPTH 0 code 0 bytes ≡ r → f (part_read r) ≡ None
    way (Ok x) e = none x.0 (like code bytes x e)
    way (Err d) e = null
