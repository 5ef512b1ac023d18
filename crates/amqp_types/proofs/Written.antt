-- What is written says what it is to say, and is read so.
use Rattle.std.proofs.Common.{◌≡◌, ℕ, zero, suc, ◌+◌, ◌<◌, ◌≤◌, ◌^◌, Bool, true, false, cond, eqb, ◌&&◌, List, [], ◌∷◌, ◌++◌, length, take, Some, Bor, refl, sym, ap, subst, ◌∙◌, append_assoc, add-one, arith}
use Rattle.std.specs.List.{flat_map}
use Rattle.std.proofs.lemmas.Bool.{eqb-true}
use Rattle.std.proofs.lemmas.List.{append-nil, length-append}
use Rattle.byteorder.specs.Endian.{big_number, big_bytes}
use Rattle.byteorder.specs.Numbers.{length-bytes_high_first, big_number-reads_back}
use Rattle.amqp_types.specs.declared.code.Scalar.{Scalar}
use Rattle.amqp_types.specs.declared.code.Scalar.TheVariants as scalars
use Rattle.amqp_types.specs.declared.code.Text.{Text}
use Rattle.amqp_types.specs.declared.code.Text.TheVariants as texts
use Rattle.amqp_types.specs.declared.code.Kind.TheVariants as kinds
use Rattle.amqp_types.specs.declared.code.SizeWidth.{SizeWidth}
use Rattle.amqp_types.specs.declared.code.SizeWidth.TheVariants.{One, Four}
use Rattle.amqp_types.specs.declared.code.Code.TheVariants as codes
use Rattle.amqp_types.specs.Codes.{scalar_of_code, code_of, size_len}
use Rattle.flow_counts.specs.declared.profile.TheConstants.{MAX_DEPTH}
use Rattle.amqp_types.specs.Part.{Part, Null, Boolean, Ubyte, Ushort, Uint, Ulong, Sized, Nested, Described}
use Rattle.amqp_types.specs.Grammar.{IsNumber, IsScalar, IsText, AreItems, IsData, IsValue}
use Rattle.amqp_types.specs.Writing.{IsReadAs, IsWritten, IsListOf, IsDescribedListOf, levels_in_list, levels_in_described, fits_octet, null_octets, boolean_octets, ubyte_octets, ushort_octets, uint_octets, ulong_octets, text_code, text_octets, list_octets, descriptor_octets, described_list_octets}
use Rattle.amqp_types.proofs.Values.{seen_again}
use Rattle.amqp_types.proofs.Shortest.{least, shortest}

-- the parts before a place are behind what was there, which had so many octets and so much room
pub record PutSoFar (old : List ℕ) (room_then : ℕ) (parts : List (Bor (List ℕ))) (place : ℕ) (new : List ℕ) (room_now len : ℕ) : Type 0 where
  pub start : len ≡ length old
  pub put : new ≡ old ++ flat_map (λ part. part.now) (take place parts)
  pub room : room_then ≤ room_now

-- ---- values with nothing nested in them

-- octets that say this at any depth
abbrev IsFlat : List ℕ → Part → Type 0
IsFlat octets part = (levels : ℕ) → IsValue (suc levels) octets part

written : (octets : List ℕ) (part : Part) → length octets ≡ least part → IsFlat octets part → IsWritten octets part
written octets part len is = record {
  is = is;
  again = λ rest. seen_again MAX_DEPTH 0 octets rest part (is 31);
  shortest = shortest octets part len;
}

fixed : (b : ℕ) (scalar : Scalar) (octets : List ℕ) (part : Part) → code_of b ≡ Some (codes.Fixed scalar) → IsScalar scalar octets part → IsFlat (b ∷ octets) part
unfolding IsValue IsData
fixed b scalar octets part e is = λ levels. (codes.Fixed scalar, e, is)

-- the number that octets of it are
is_number : (width n : ℕ) → n < 256 ^ width → IsNumber width (big_bytes width n) n
is_number width n fits = record {
  len = length-bytes_high_first width n;
  says = ap (big_number width) (sym (append-nil (big_bytes width n))) ∙ big_number-reads_back width n [] fits;
}

is_octet : (n : ℕ) → IsNumber 1 (n ∷ []) n
is_octet n = record { len = refl; says = omega arith }

pub null_written : IsWritten null_octets Null
unfolding code_of scalar_of_code null_octets least
null_written = written null_octets Null refl (fixed 0x40 scalars.Null [] Null refl (refl, refl))

pub boolean_written : (truth : Bool) → IsWritten (boolean_octets truth) (Boolean truth)
unfolding code_of scalar_of_code boolean_octets least
boolean_written true = written (boolean_octets true) (Boolean true) refl (fixed 0x41 scalars.True [] (Boolean true) refl (refl, refl))
boolean_written false = written (boolean_octets false) (Boolean false) refl (fixed 0x42 scalars.False [] (Boolean false) refl (refl, refl))

pub ubyte_written : (n : ℕ) → IsWritten (ubyte_octets n) (Ubyte n)
unfolding code_of scalar_of_code ubyte_octets least
ubyte_written n = written (ubyte_octets n) (Ubyte n) refl (fixed 0x50 scalars.Ubyte (n ∷ []) (Ubyte n) refl (n, is_octet n, refl))

pub ushort_written : (n : ℕ) → n < 2 ^ 16 → IsWritten (ushort_octets n) (Ushort n)
unfolding code_of scalar_of_code ushort_octets least
ushort_written n fits = written (ushort_octets n) (Ushort n) refl (fixed 0x60 scalars.Ushort (big_bytes 2 n) (Ushort n) refl (n, is_number 2 n fits, refl))

uint_by : (n : ℕ) (none one : Bool) → eqb n 0 ≡ none → n < 2 ^ 32 → IsFlat (cond none (0x43 ∷ []) (cond one (0x52 ∷ n ∷ []) (0x70 ∷ big_bytes 4 n))) (Uint n)
unfolding code_of scalar_of_code
uint_by n true one e fits = fixed 0x43 scalars.UintZero [] (Uint n) refl (refl, ap (λ (m : ℕ). Uint m) (eqb-true n 0 e))
uint_by n false true e fits = fixed 0x52 scalars.UintOctet (n ∷ []) (Uint n) refl (n, is_octet n, refl)
uint_by n false false e fits = fixed 0x70 scalars.Uint (big_bytes 4 n) (Uint n) refl (n, is_number 4 n fits, refl)

pub uint_written : (n : ℕ) → n < 2 ^ 32 → IsWritten (uint_octets n) (Uint n)
unfolding uint_octets least
uint_written n fits = written (uint_octets n) (Uint n) refl (uint_by n (eqb n 0) (fits_octet n) refl fits)

ulong_by : (n : ℕ) (none one : Bool) → eqb n 0 ≡ none → n < 2 ^ 64 → IsFlat (cond none (0x44 ∷ []) (cond one (0x53 ∷ n ∷ []) (0x80 ∷ big_bytes 8 n))) (Ulong n)
unfolding code_of scalar_of_code
ulong_by n true one e fits = fixed 0x44 scalars.UlongZero [] (Ulong n) refl (refl, ap (λ (m : ℕ). Ulong m) (eqb-true n 0 e))
ulong_by n false true e fits = fixed 0x53 scalars.UlongOctet (n ∷ []) (Ulong n) refl (n, is_octet n, refl)
ulong_by n false false e fits = fixed 0x80 scalars.Ulong (big_bytes 8 n) (Ulong n) refl (n, is_number 8 n fits, refl)

pub ulong_written : (n : ℕ) → n < 2 ^ 64 → IsWritten (ulong_octets n) (Ulong n)
unfolding ulong_octets least
ulong_written n fits = written (ulong_octets n) (Ulong n) refl (ulong_by n (eqb n 0) (fits_octet n) refl fits)

text_codes : (text : Text) (width : SizeWidth) → code_of (text_code text width) ≡ Some (codes.Sized text width)
unfolding code_of scalar_of_code
text_codes texts.Binary One = refl
text_codes texts.Str One = refl
text_codes texts.Symbol One = refl
text_codes texts.Binary Four = refl
text_codes texts.Str Four = refl
text_codes texts.Symbol Four = refl

sized : (text : Text) (width : SizeWidth) (size content : List ℕ) → IsNumber (size_len width) size (length content) → IsText text content → IsFlat (text_code text width ∷ (size ++ content)) (Sized text content)
unfolding IsValue IsData
sized text width size content says is =
    λ levels. (codes.Sized text width, text_codes text width, (content, record { size = size; says = says; parts = refl }, is, refl))

text_by : (text : Text) (content : List ℕ) (one : Bool) → length content < 2 ^ 32 → IsText text content
    → IsFlat (cond one (text_code text One ∷ length content ∷ content) (text_code text Four ∷ (big_bytes 4 (length content) ++ content))) (Sized text content)
text_by text content true few is = sized text One (length content ∷ []) content (is_octet (length content)) is
text_by text content false few is = sized text Four (big_bytes 4 (length content)) content (is_number 4 (length content) few) is

pub text_written : (text : Text) (content : List ℕ) → length content < 2 ^ 32 → IsText text content → IsWritten (text_octets text content) (Sized text content)
unfolding text_octets least
text_written text content few is = written (text_octets text content) (Sized text content) refl (text_by text content (fits_octet (length content)) few is)

-- ---- lists

-- each value has an octet
value_long : (levels : ℕ) (octets : List ℕ) (part : Part) → IsValue levels octets part → 1 ≤ length octets
unfolding IsValue
value_long levels [] part is = absurd is
value_long levels (b ∷ octets) part is = omega arith

items_long : (levels n : ℕ) (octets : List ℕ) → AreItems (IsValue levels) n octets → n ≤ length octets
items_long levels zero octets are = omega arith
items_long levels (suc n) octets are =
    omega (arith, value_long levels are.0 are.2 are.4, items_long levels n are.1 are.5, ap length are.3, length-append are.0 are.1)

no_items : (levels : ℕ) (octets : List ℕ) → AreItems (IsValue levels) 0 octets → octets ≡ []
no_items levels octets are = are

list_code : SizeWidth → ℕ
list_code One = 0xC0
list_code Four = 0xD0

list_codes : (width : SizeWidth) → code_of (list_code width) ≡ Some (codes.Nested kinds.List width)
unfolding code_of scalar_of_code list_code
list_codes One = refl
list_codes Four = refl

-- a list with a size and a count of so many octets each
counted : (levels : ℕ) (width : SizeWidth) (size count body : List ℕ) (n : ℕ) → IsNumber (size_len width) count n → IsNumber (size_len width) size (length (count ++ body))
    → AreItems (IsValue levels) n body → IsValue (suc levels) (list_code width ∷ (size ++ (count ++ body))) (Nested kinds.List n body)
unfolding IsValue IsData
counted levels width size count body n counts sizes are =
    let few : n ≤ length (count ++ body) = omega (arith, items_long levels n body are, length-append count body) in (
      codes.Nested kinds.List width,
      list_codes width,
      record {
        n = n;
        body = body;
        counted = record { count = count; says = counts; sized = record { size = size; says = sizes; parts = refl }; few = few };
        paired = tt;
        items = are;
        is = refl;
      },
    )

empty_list : (levels n : ℕ) (body : List ℕ) → n ≡ 0 → AreItems (IsValue levels) n body → IsValue (suc levels) (0x45 ∷ []) (Nested kinds.List n body)
unfolding IsValue IsData code_of scalar_of_code
empty_list levels n body e are =
    let none : body ≡ [] = subst (λ (m : ℕ). AreItems (IsValue levels) m body) e are in
    (codes.EmptyList, refl, (refl, rw (e, none) refl))

list_by : (levels n : ℕ) (body : List ℕ) (none one : Bool) → eqb n 0 ≡ none → length body + 4 < 2 ^ 32 → n < 2 ^ 32 → AreItems (IsValue levels) n body
    → IsValue (suc levels) (cond none (0x45 ∷ []) (cond one (0xC0 ∷ (length body + 1) ∷ n ∷ body) (0xD0 ∷ (big_bytes 4 (length body + 4) ++ (big_bytes 4 n ++ body))))) (Nested kinds.List n body)
unfolding list_code
list_by levels n body true one e few fits are = empty_list levels n body (eqb-true n 0 e) are
list_by levels n body false true e few fits are =
    let size : IsNumber 1 ((length body + 1) ∷ []) (length ((n ∷ []) ++ body)) = record { len = refl; says = omega arith } in
    counted levels One ((length body + 1) ∷ []) (n ∷ []) body n (is_octet n) size are
list_by levels n body false false e few fits are =
    let all : length (big_bytes 4 n ++ body) ≡ length body + 4 = omega (arith, length-append (big_bytes 4 n) body, length-bytes_high_first 4 n) in
    let size : IsNumber 4 (big_bytes 4 (length body + 4)) (length (big_bytes 4 n ++ body)) = rw all (is_number 4 (length body + 4) few) in
    counted levels Four (big_bytes 4 (length body + 4)) (big_bytes 4 n) body n (is_number 4 n fits) size are

pub list_nested : (n : ℕ) (body : List ℕ) → length body + 4 < 2 ^ 32 → n < 2 ^ 32 → IsListOf n body
unfolding list_octets
list_nested n body few fits = λ levels are. list_by levels n body (eqb n 0) (fits_octet (length body + 1) && fits_octet n) refl few fits are

pub list_read : (n : ℕ) (body : List ℕ) → length body + 4 < 2 ^ 32 → n < 2 ^ 32 → AreItems (IsValue levels_in_list) n body → IsReadAs (list_octets n body) (Nested kinds.List n body)
list_read n body few fits are = λ rest. seen_again MAX_DEPTH 0 (list_octets n body) rest (Nested kinds.List n body) (list_nested n body few fits levels_in_list are)

-- ---- items

one_behind : (levels n : ℕ) (octets item : List ℕ) (part : Part) → AreItems (IsValue (suc levels)) n octets → IsWritten item part → AreItems (IsValue (suc levels)) (suc n) (octets ++ item)
one_behind levels zero octets item part are says = (item, [], part, rw (are, append-nil item) refl, says.is levels, refl)
one_behind levels (suc n) octets item part are says = (
  are.0,
  are.1 ++ item,
  are.2,
  ap (λ (t : List ℕ). t ++ item) are.3 ∙ append_assoc are.0 are.1 item,
  are.4,
  one_behind levels n are.1 item part are.5 says,
)

-- a value that is written behind some items is one more item
pub one_more : (levels n : ℕ) (octets item : List ℕ) (part : Part) → AreItems (IsValue (suc levels)) n octets → IsWritten item part → AreItems (IsValue (suc levels)) (n + 1) (octets ++ item)
one_more levels n octets item part are says =
    subst (λ (m : ℕ). AreItems (IsValue (suc levels)) m (octets ++ item)) (sym (add-one n)) (one_behind levels n octets item part are says)

-- ---- described lists

described_by : (levels code : ℕ) (octets : List ℕ) (part : Part) → IsValue (suc levels) octets part → IsValue (suc (suc levels)) (0x00 ∷ (descriptor_octets code ++ octets)) (Described (descriptor_octets code) octets)
unfolding IsValue IsData code_of scalar_of_code
described_by levels code octets part is = (
  codes.Described,
  refl,
  record {
    descriptor = descriptor_octets code;
    described = octets;
    parts = refl;
    descriptor_says = Ulong code;
    descriptor_is = (codes.Fixed scalars.UlongOctet, refl, (code, is_octet code, refl));
    described_says = part;
    described_is = is;
    is = refl;
  },
)

pub described_nested : (code n : ℕ) (body : List ℕ) → length body + 4 < 2 ^ 32 → n < 2 ^ 32 → IsDescribedListOf code n body
described_nested code n body few fits = λ levels are. described_by levels code (list_octets n body) (Nested kinds.List n body) (list_nested n body few fits levels are)

pub described_read : (code n : ℕ) (body : List ℕ) → length body + 4 < 2 ^ 32 → n < 2 ^ 32 → AreItems (IsValue levels_in_described) n body
    → IsReadAs (described_list_octets code n body) (Described (descriptor_octets code) (list_octets n body))
described_read code n body few fits are =
    λ rest. seen_again MAX_DEPTH 0 (described_list_octets code n body) rest (Described (descriptor_octets code) (list_octets n body)) (described_nested code n body few fits levels_in_described are)
