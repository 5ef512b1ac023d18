-- Fields that are taken of a list in its usual form, one after the other.
use Rattle.std.proofs.Common.{◌≡◌, ℕ, zero, suc, nat_lt, le-ltb, cond, ◌-◌, ◌≤◌, ◌<◌, Bool, true, false, List, [], ◌∷◌, ◌++◌, length, take, drop, slice_index_or, Some, None, Ok, Err, refl, sym, ap, subst, ◌∙◌, arith}
use Rattle.std.proofs.lemmas.List.{take-append-drop, length-take-le, take_all}
use Rattle.amqp_types.specs.declared.code.Kind.TheVariants as kinds
use Rattle.amqp_types.specs.declared.code.Scalar.TheVariants as scalars
use Rattle.amqp_types.specs.declared.code.SizeWidth.TheVariants as widths
use Rattle.amqp_types.specs.declared.code.Code.TheVariants as codes
use Rattle.amqp_types.specs.Codes.{code_of, scalar_of_code}
use Rattle.amqp_types.specs.Part as parts
use Rattle.amqp_types.specs.Part.{Part, Null, Boolean, Ubyte, Ushort, Uint, Ulong, Kept, Sized, Nested, Array, Described, Tagged, Seen}
use Rattle.amqp_types.specs.Typed.{uint_in, boolean_in, says_null}
use Rattle.amqp_types.specs.Reading.{Read, seen_at, item_at}
use Rattle.amqp_types.specs.Items.{seen_in, items_in, seen_of, seen_then}
use Rattle.amqp_types.specs.Listed.{listed}
use Rattle.amqp_types.specs.Grammar.{IsValue, IsData, IsFront, AreItems}
use Rattle.flow_counts.specs.declared.profile.TheConstants.{MAX_DEPTH}
use Rattle.amqp_types.proofs.Values.{seen_again}
use Rattle.amqp_types.proofs.Deeper.{value_deeper}
use Rattle.amqp_types.proofs.Held.{first_is}
use Rattle.amqp_types.proofs.Nested.{value_is}
use Rattle.amqp_perf.specs.declared.table.FieldType.TheVariants as types
use Rattle.amqp_perf.specs.declared.table.Field.{Field}
use Rattle.amqp_perf.specs.declared.usual.Usual.{Usual}
use Rattle.amqp_perf.specs.FieldPlaces.{missing, first, others}
use Rattle.amqp_perf.specs.Tables.{table_of, mandatory, optional}
use Rattle.amqp_perf.specs.Fields.{fits_field, all_fit, first_fault}
use Rattle.amqp_perf.specs.Meaning.{Meaning}
use Rattle.amqp_perf.specs.Nested.{role_of}
use Rattle.amqp_perf.specs.Reading.{performative_at}
use Rattle.amqp_perf.specs.Usual.{IsItem, IsTaken, AreTaken, AreWhole, IsUsualList, IsUsual, usual_left, uint_of, boolean_of, number_of, role_said}
use Rattle.amqp_perf.proofs.Fits.{none_at_fault}
use Rattle.amqp_perf.proofs.Listed.{said_listed}

-- ---- one field

first_left : (left : ℕ) (octets : List ℕ) (value : Seen) (rest : List ℕ) → 0 < left → IsFront 30 octets value rest → seen_in left octets ≡ value ∷ seen_in (left - 1) rest
unfolding item_at
first_left left octets value rest some front =
    first_is None left octets (value, rest) some (ap (seen_at MAX_DEPTH 0) front.parts ∙ seen_again MAX_DEPTH 0 value.octets rest value.part (value_deeper 30 MAX_DEPTH value.octets value.part (omega arith) front.is))

-- an item that is taken
pub step : {A : Type 0} (field : Field) (says : Seen → A) (old new : Usual) (a : A) → IsItem field says old.octets.now a new.octets.now → 0 < old.left → new.left ≡ old.left - 1
    → IsTaken field says old new a
unfolding AreWhole
step field says old new a item some less =
    let is : seen_in old.left old.octets.now ≡ item.value ∷ seen_in (old.left - 1) new.octets.now = first_left old.left old.octets.now item.value new.octets.now some item.front in
    let more : old.left ≡ suc (old.left - 1) = omega (arith, some) in
    record {
      value = item.is ∙ ap (λ (fields : List Seen). says (first fields)) (sym is);
      left = ap (λ (n : ℕ). seen_in n new.octets.now) less ∙ ap others (sym is);
      fits = ap (λ (fields : List Seen). fits_field field (first fields)) is ∙ item.fits;
      few = omega (arith, some, less);
      whole = λ are. subst (λ (n : ℕ). AreItems (IsValue 30) n old.octets.now) (sym more)
          (item.value.octets, new.octets.now, item.value.part, item.front.parts, item.front.is, subst (λ (n : ℕ). AreItems (IsValue 30) n new.octets.now) less are);
    }

-- a field that is missing at the end
pub at_end : {A : Type 0} (field : Field) (says : Seen → A) (old : Usual) (a : A) → old.left ≡ 0 → fits_field field missing ≡ true → a ≡ says missing → IsTaken field says old old a
unfolding items_in
at_end field says old a none fits value =
    let is : seen_in old.left old.octets.now ≡ [] = ap (λ (n : ℕ). seen_in n old.octets.now) none in
    record {
      value = value ∙ ap (λ (fields : List Seen). says (first fields)) (sym is);
      left = is ∙ ap others (sym is);
      fits = ap (λ (fields : List Seen). fits_field field (first fields)) is ∙ fits;
      few = omega arith;
      whole = λ are. are;
    }

-- ---- a field that has to be there

uint_fits : (octets : List ℕ) (part : Part) (n : ℕ) → Some n ≡ uint_in part → fits_field (mandatory types.Uint) (record { octets = octets; part = part }) ≡ true
uint_fits octets Null n e = absurd cc
uint_fits octets (Boolean b) n e = absurd cc
uint_fits octets (Ubyte m) n e = absurd cc
uint_fits octets (Ushort m) n e = absurd cc
uint_fits octets (Uint m) n e = refl
uint_fits octets (Ulong m) n e = absurd cc
uint_fits octets (parts.Byte m) n e = absurd cc
uint_fits octets (parts.Short m) n e = absurd cc
uint_fits octets (parts.Int m) n e = absurd cc
uint_fits octets (parts.Long m) n e = absurd cc
uint_fits octets (Kept o m) n e = absurd cc
uint_fits octets (Sized t m) n e = absurd cc
uint_fits octets (Nested k m o) n e = absurd cc
uint_fits octets (Array f m o) n e = absurd cc
uint_fits octets (Described d o) n e = absurd cc
uint_fits octets (Tagged d c o) n e = absurd cc

boolean_fits : (octets : List ℕ) (part : Part) (a : Bool) → Some a ≡ boolean_in part → fits_field (mandatory types.Boolean) (record { octets = octets; part = part }) ≡ true
boolean_fits octets Null a e = absurd cc
boolean_fits octets (Boolean b) a e = refl
boolean_fits octets (Ubyte m) a e = absurd cc
boolean_fits octets (Ushort m) a e = absurd cc
boolean_fits octets (Uint m) a e = absurd cc
boolean_fits octets (Ulong m) a e = absurd cc
boolean_fits octets (parts.Byte m) a e = absurd cc
boolean_fits octets (parts.Short m) a e = absurd cc
boolean_fits octets (parts.Int m) a e = absurd cc
boolean_fits octets (parts.Long m) a e = absurd cc
boolean_fits octets (Kept o m) a e = absurd cc
boolean_fits octets (Sized t m) a e = absurd cc
boolean_fits octets (Nested k m o) a e = absurd cc
boolean_fits octets (Array f m o) a e = absurd cc
boolean_fits octets (Described d o) a e = absurd cc
boolean_fits octets (Tagged d c o) a e = absurd cc

pub must_number : (old new : Usual) (n : ℕ) → IsTaken (optional types.Uint) uint_of old new (Some n) → IsTaken (mandatory types.Uint) number_of old new n
must_number old new n taken =
    let value = first (usual_left old) in
    record { value = rw (sym taken.value) refl; left = taken.left; fits = uint_fits value.octets value.part n taken.value; few = taken.few; whole = taken.whole }

pub must_role : (old new : Usual) (b : Bool) → IsTaken (optional types.Boolean) boolean_of old new (Some b) → IsTaken (mandatory types.Boolean) role_said old new (role_of b)
must_role old new b taken =
    let value = first (usual_left old) in
    record { value = rw (sym taken.value) refl; left = taken.left; fits = boolean_fits value.octets value.part b taken.value; few = taken.few; whole = taken.whole }

any_fits : (null : Bool) → cond null true true ≡ true
any_fits true = refl
any_fits false = refl

-- a field that may hold anything
pub any_taken : {A : Type 0} (field : Field) (says : Seen → A) (old new : Usual) (a : A) → IsTaken field says old new a → IsTaken (optional types.Any) says old new a
any_taken field says old new a taken =
    record { value = taken.value; left = taken.left; fits = any_fits (says_null (first (usual_left old)).part); few = taken.few; whole = taken.whole }

-- ---- a table of fields

pub no_more : (old : Usual) → AreTaken [] old old
unfolding all_fit
no_more old = record { fit = refl; few = omega arith; whole = λ are. are }

pub and_then : {A : Type 0} (field : Field) (says : Seen → A) (old mid new : Usual) (a : A) (table : List Field) → IsTaken field says old mid a → AreTaken table mid new → AreTaken (field ∷ table) old new
unfolding all_fit
and_then field says old mid new a table one more =
    let fit : all_fit true table (others (usual_left old)) ≡ true = subst (λ (fields : List Seen). all_fit true table fields ≡ true) one.left more.fit in
    record { fit = rw one.fits fit; few = omega (arith, one.few, more.few); whole = λ are. one.whole (more.whole are) }

-- ---- the list

few_by : (read : Read Seen) (n : ℕ) → ((octets : List ℕ) → length (seen_in n octets) ≤ n) → length (seen_then read (items_in None n)) ≤ suc n
few_by (Ok x) n few = omega (arith, few x.1)
few_by (Err e) n few = omega arith

-- there are no more fields than the count says
few : (n : ℕ) (octets : List ℕ) → length (seen_in n octets) ≤ n
unfolding items_in
few zero octets = omega arith
few (suc n) octets = few_by (item_at MAX_DEPTH None 0 octets) n (few n)

number_is : (levels n : ℕ) → IsValue (suc levels) (0x53 ∷ n ∷ []) (Ulong n)
unfolding IsValue IsData code_of scalar_of_code
number_is levels n = (codes.Fixed scalars.UlongOctet, refl, (n, record { len = refl; says = omega arith }, refl))

list_is : (size count : ℕ) (body : List ℕ) → size ≡ suc (length body) → count < size → AreItems (IsValue 30) count body
    → IsValue 31 (0xC0 ∷ size ∷ count ∷ body) (Nested kinds.List count body)
unfolding IsValue IsData code_of
list_is size count body all small are = (
  codes.Nested kinds.List widths.One,
  refl,
  record {
    n = count;
    body = body;
    counted = record {
      count = count ∷ [];
      says = record { len = refl; says = omega arith };
      sized = record { size = size ∷ []; says = record { len = refl; says = omega (arith, all) }; parts = refl };
      few = omega (arith, all, small);
    };
    paired = tt;
    items = are;
    is = refl;
  },
)

described_is : (n : ℕ) (octets : List ℕ) (count : ℕ) (body : List ℕ) → IsValue 31 octets (Nested kinds.List count body)
    → IsValue MAX_DEPTH (0x00 ∷ 0x53 ∷ n ∷ octets) (Described (0x53 ∷ n ∷ []) octets)
unfolding IsValue IsData code_of
described_is n octets count body is = (
  codes.Described,
  refl,
  record {
    descriptor = 0x53 ∷ n ∷ [];
    described = octets;
    parts = refl;
    descriptor_says = Ulong n;
    descriptor_is = number_is 30 n;
    described_says = Nested kinds.List count body;
    described_is = is;
    is = refl;
  },
)

list_by : (code size count : ℕ) (body rest : List ℕ) → size ≡ suc (length body) → count < size → AreItems (IsValue 30) count body
    → listed (seen_at MAX_DEPTH 0 (0x00 ∷ 0x53 ∷ code ∷ 0xC0 ∷ size ∷ count ∷ (body ++ rest))) ≡ Ok (Some (record { octets = 0x53 ∷ code ∷ []; part = Ulong code }, seen_in count body), rest)
list_by code size count body rest all small are =
    let list : List ℕ = 0xC0 ∷ size ∷ count ∷ body in
    let part : Part = Nested kinds.List count body in
    let is : IsValue 31 list part = list_is size count body all small are in
    let both : Part = Described (0x53 ∷ code ∷ []) list in
    let read : seen_at MAX_DEPTH 0 (0x00 ∷ 0x53 ∷ code ∷ 0xC0 ∷ size ∷ count ∷ (body ++ rest)) ≡ Ok (record { octets = 0x00 ∷ 0x53 ∷ code ∷ list; part = both }, rest) =
    seen_again MAX_DEPTH 0 (0x00 ∷ 0x53 ∷ code ∷ list) rest both (described_is code list count body is) in
    let descriptor : seen_of (0x53 ∷ code ∷ []) ≡ record { octets = 0x53 ∷ code ∷ []; part = Ulong code } = value_is (0x53 ∷ code ∷ []) (Ulong code) (number_is 31 code) in
    let described : seen_of list ≡ record { octets = list; part = part } = value_is list part (value_deeper 31 MAX_DEPTH list part (omega arith) is) in
    rw (read, descriptor, described) refl

-- the same at the front of octets
pub usual_front : (octets : List ℕ) (code size : ℕ) (fields : Usual) (rest : List ℕ) → 6 ≤ length octets → slice_index_or octets 0 0 ≡ 0x00 → slice_index_or octets 1 0 ≡ 0x53
    → slice_index_or octets 2 0 ≡ code → slice_index_or octets 3 0 ≡ 0xC0 → slice_index_or octets 4 0 ≡ size → slice_index_or octets 5 0 ≡ fields.left
    → fields.left < size → size - 1 ≤ length (take (length octets - 6) (drop 6 octets)) → fields.octets.now ≡ take (size - 1) (take (length octets - 6) (drop 6 octets))
    → rest ≡ drop (size - 1) (take (length octets - 6) (drop 6 octets))
    → IsUsualList octets code fields rest
unfolding AreWhole
usual_front (x ∷ y ∷ z ∷ w ∷ s ∷ c ∷ behind) code size fields rest long a b named d sized counted small room own back = record {
  reads = λ are.
      let same : take (length (x ∷ y ∷ z ∷ w ∷ s ∷ c ∷ behind) - 6) behind ≡ behind = take_all _ behind (omega arith) in
      let len : length fields.octets.now ≡ size - 1 = ap length own ∙ length-take-le (size - 1) _ room in
      let all : size ≡ suc (length fields.octets.now) = omega (arith, len, small) in
      let parts : behind ≡ fields.octets.now ++ rest = sym same ∙ sym (take-append-drop (size - 1) _) ∙ rw (own, back) refl in
      rw (a, b, named, d, sized, counted, parts) (list_by code size fields.left fields.octets.now rest all small are);
}
usual_front [] code size fields rest long a b named d sized counted small room own back = absurd (omega (arith, long))
usual_front (x ∷ []) code size fields rest long a b named d sized counted small room own back = absurd (omega (arith, long))
usual_front (x ∷ y ∷ []) code size fields rest long a b named d sized counted small room own back = absurd (omega (arith, long))
usual_front (x ∷ y ∷ z ∷ []) code size fields rest long a b named d sized counted small room own back = absurd (omega (arith, long))
usual_front (x ∷ y ∷ z ∷ w ∷ []) code size fields rest long a b named d sized counted small room own back = absurd (omega (arith, long))
usual_front (x ∷ y ∷ z ∷ w ∷ s ∷ []) code size fields rest long a b named d sized counted small room own back = absurd (omega (arith, long))

-- ---- a performative

not_many : (n m : ℕ) → m ≤ n → nat_lt n m ≡ false
not_many n m le = le-ltb _ _ le

-- the end of the fields
ended : (fields : Usual) → fields.left ≡ 0 → fields.octets.now ≡ [] → AreWhole fields
unfolding AreWhole
ended fields none empty = subst (λ (n : ℕ). AreItems (IsValue 30) n fields.octets.now) (sym none) empty

-- fields that were all taken are a performative
pub usual_read : (octets : List ℕ) (code : ℕ) (fields left : Usual) (rest : List ℕ) (meaning : Meaning) → IsUsualList octets code fields rest → IsUsual code fields left meaning
    → (left.left ≡ 0) × (left.octets.now ≡ []) → performative_at octets ≡ Ok (meaning, rest)
unfolding performative_at
usual_read octets code fields left rest meaning list usual done =
    let table = table_of usual.kind in
    let read = list.reads (usual.taken.whole (ended left done.0 done.1)) in
    let enough : length (usual_left fields) ≤ length table = omega (arith, few fields.left fields.octets.now, usual.taken.few, done.0) in
    let fault : first_fault 1 table (usual_left fields) ≡ None = none_at_fault table (usual_left fields) true (sym usual.taken.fit) refl in
    said_listed (seen_at MAX_DEPTH 0 octets) (Some (record { octets = 0x53 ∷ code ∷ []; part = Ulong code }, usual_left fields)) rest read
    ∙ rw (usual.named, not_many (length table) (length (usual_left fields)) enough, fault, usual.means) refl
