-- The items of a list in their usual form: which octets they are, and what they say.
use Rattle.std.proofs.Common.{◌≡◌, ℕ, suc, true, false, List, [], ◌∷◌, ◌++◌, length, take, drop, ◌≤◌, slice_index_or, Option, Some, None, refl, sym, ap, ◌∙◌, arith}
use Rattle.std.proofs.lemmas.List.{take-append-drop, length-take-le}
use Rattle.byteorder.specs.Endian.{big_number}
use Rattle.amqp_types.specs.declared.code.Scalar.TheVariants as scalars
use Rattle.amqp_types.specs.declared.code.Text.TheVariants as texts
use Rattle.amqp_types.specs.declared.code.SizeWidth.TheVariants as widths
use Rattle.amqp_types.specs.declared.code.Code.TheVariants as codes
use Rattle.amqp_types.specs.Codes.{code_of, scalar_of_code}
use Rattle.amqp_types.specs.Part.{Part, Null, Boolean, Uint, Ulong, Sized, Nested, Described, Seen}
use Rattle.amqp_types.specs.declared.code.Kind.TheVariants as kinds
use Rattle.amqp_types.specs.Items.{seen_of}
use Rattle.amqp_types.specs.Listed.{IsNumbered}
use Rattle.amqp_types.proofs.Nested.{value_is}
use Rattle.amqp_perf.specs.declared.descriptor.Outcome.{Outcome}
use Rattle.amqp_perf.specs.declared.descriptor.Outcome.TheVariants.{Modified}
use Rattle.amqp_perf.specs.Descriptors.{descriptor_of_code}
use Rattle.amqp_perf.specs.Nested.{StateFields, outcome_named, state_in}
use Rattle.amqp_perf.proofs.NumberedStates.{state_numbered}
use Rattle.amqp_types.specs.Grammar.{IsValue, IsData, IsFront}
use Rattle.amqp_perf.specs.declared.table.FieldType.TheVariants as types
use Rattle.amqp_perf.specs.declared.table.Field.{Field}
use Rattle.amqp_perf.specs.Tables.{optional}
use Rattle.amqp_perf.specs.Fields.{fits_field}
use Rattle.amqp_perf.specs.Usual.{IsItem, uint_of, boolean_of, binary_of}

-- a value at the front of octets, by its own octets
abbrev At : List ℕ → List ℕ → Part → List ℕ → Type 0
At octets own part rest = IsFront 30 octets (record { octets = own; part = part }) rest

-- ---- each kind of item: which octets it is

null_is : (rest : List ℕ) → At (0x40 ∷ rest) (0x40 ∷ []) Null rest
unfolding IsValue IsData code_of scalar_of_code
null_is rest = record { parts = refl; is = (codes.Fixed scalars.Null, refl, (refl, refl)) }

true_is : (rest : List ℕ) → At (0x41 ∷ rest) (0x41 ∷ []) (Boolean true) rest
unfolding IsValue IsData code_of scalar_of_code
true_is rest = record { parts = refl; is = (codes.Fixed scalars.True, refl, (refl, refl)) }

false_is : (rest : List ℕ) → At (0x42 ∷ rest) (0x42 ∷ []) (Boolean false) rest
unfolding IsValue IsData code_of scalar_of_code
false_is rest = record { parts = refl; is = (codes.Fixed scalars.False, refl, (refl, refl)) }

zero_is : (rest : List ℕ) → At (0x43 ∷ rest) (0x43 ∷ []) (Uint 0) rest
unfolding IsValue IsData code_of scalar_of_code
zero_is rest = record { parts = refl; is = (codes.Fixed scalars.UintZero, refl, (refl, refl)) }

octet_is : (n : ℕ) (rest : List ℕ) → At (0x52 ∷ n ∷ rest) (0x52 ∷ n ∷ []) (Uint n) rest
unfolding IsValue IsData code_of scalar_of_code
octet_is n rest = record { parts = refl; is = (codes.Fixed scalars.UintOctet, refl, (n, record { len = refl; says = omega arith }, refl)) }

uint_is : (own rest : List ℕ) → length own ≡ 4 → At (0x70 ∷ (own ++ rest)) (0x70 ∷ own) (Uint (big_number 4 own)) rest
unfolding IsValue IsData code_of scalar_of_code
uint_is own rest four = record { parts = refl; is = (codes.Fixed scalars.Uint, refl, (big_number 4 own, record { len = four; says = refl }, refl)) }

binary_is : (own rest : List ℕ) → At (0xA0 ∷ length own ∷ (own ++ rest)) (0xA0 ∷ length own ∷ own) (Sized texts.Binary own) rest
unfolding IsValue IsData code_of
binary_is own rest = record {
  parts = refl;
  is = (
    codes.Sized texts.Binary widths.One,
    refl,
    (own, record { size = length own ∷ []; says = record { len = refl; says = omega arith }; parts = refl }, tt, refl),
  );
}

-- ---- the same as fields

item : {A : Type 0} (field : Field) (says : Seen → A) (octets own : List ℕ) (part : Part) (rest : List ℕ) → At octets own part rest
    → fits_field field (record { octets = own; part = part }) ≡ true → IsItem field says octets (says (record { octets = own; part = part })) rest
item field says octets own part rest at fits = record { value = record { octets = own; part = part }; front = at; fits = fits; is = refl }

-- a null or an uint
pub uint_null : (octets body : List ℕ) (first : ℕ) → octets ≡ first ∷ body → first ≡ 0x40 → IsItem (optional types.Uint) uint_of octets None body
uint_null octets body first same code = rw (same, code) (item (optional types.Uint) uint_of (0x40 ∷ body) (0x40 ∷ []) Null body (null_is body) refl)

pub uint_zero : (octets body : List ℕ) (first : ℕ) → octets ≡ first ∷ body → first ≡ 0x43 → IsItem (optional types.Uint) uint_of octets (Some 0) body
uint_zero octets body first same code = rw (same, code) (item (optional types.Uint) uint_of (0x43 ∷ body) (0x43 ∷ []) (Uint 0) body (zero_is body) refl)

pub uint_octet : (octets more : List ℕ) (first : ℕ) (rest : List ℕ) (n m : ℕ) → octets ≡ first ∷ more → first ≡ 0x52 → more ≡ m ∷ rest → n ≡ m
    → IsItem (optional types.Uint) uint_of octets (Some n) rest
uint_octet octets more first rest n m same code behind number =
    let parts : octets ≡ 0x52 ∷ n ∷ rest = same ∙ ap (λ (b : ℕ). b ∷ more) code ∙ ap (λ (t : List ℕ). 0x52 ∷ t) (behind ∙ ap (λ (b : ℕ). b ∷ rest) (sym number)) in
    rw parts (item (optional types.Uint) uint_of (0x52 ∷ n ∷ rest) (0x52 ∷ n ∷ []) (Uint n) rest (octet_is n rest) refl)

pub uint_four : (octets body : List ℕ) (first : ℕ) (own rest : List ℕ) (n : ℕ) → octets ≡ first ∷ body → first ≡ 0x70 → 4 ≤ length body → own ≡ take 4 body → rest ≡ drop 4 body → n ≡ big_number 4 own
    → IsItem (optional types.Uint) uint_of octets (Some n) rest
uint_four octets body first own rest n same code long front back number =
    let four : length own ≡ 4 = ap length front ∙ length-take-le 4 body long in
    let parts : octets ≡ 0x70 ∷ (own ++ rest) = same ∙ ap (λ (b : ℕ). b ∷ body) code ∙ ap (λ (t : List ℕ). 0x70 ∷ t) (sym (take-append-drop 4 body)) ∙ rw (front, back) refl in
    rw (parts, number) (item (optional types.Uint) uint_of (0x70 ∷ (own ++ rest)) (0x70 ∷ own) (Uint (big_number 4 own)) rest (uint_is own rest four) refl)

-- a null or a boolean
pub boolean_null : (octets body : List ℕ) (first : ℕ) → octets ≡ first ∷ body → first ≡ 0x40 → IsItem (optional types.Boolean) boolean_of octets None body
boolean_null octets body first same code = rw (same, code) (item (optional types.Boolean) boolean_of (0x40 ∷ body) (0x40 ∷ []) Null body (null_is body) refl)

pub boolean_true : (octets body : List ℕ) (first : ℕ) → octets ≡ first ∷ body → first ≡ 0x41 → IsItem (optional types.Boolean) boolean_of octets (Some true) body
boolean_true octets body first same code = rw (same, code) (item (optional types.Boolean) boolean_of (0x41 ∷ body) (0x41 ∷ []) (Boolean true) body (true_is body) refl)

pub boolean_false : (octets body : List ℕ) (first : ℕ) → octets ≡ first ∷ body → first ≡ 0x42 → IsItem (optional types.Boolean) boolean_of octets (Some false) body
boolean_false octets body first same code = rw (same, code) (item (optional types.Boolean) boolean_of (0x42 ∷ body) (0x42 ∷ []) (Boolean false) body (false_is body) refl)

-- a null or a binary
pub binary_null : (octets body : List ℕ) (first : ℕ) → octets ≡ first ∷ body → first ≡ 0x40 → IsItem (optional types.Binary) binary_of octets None body
binary_null octets body first same code = rw (same, code) (item (optional types.Binary) binary_of (0x40 ∷ body) (0x40 ∷ []) Null body (null_is body) refl)

pub binary_some : (octets sized : List ℕ) (first : ℕ) (body : List ℕ) (size n : ℕ) (own rest : List ℕ) → octets ≡ first ∷ sized → first ≡ 0xA0 → sized ≡ size ∷ body → n ≡ size → n ≤ length body
    → own ≡ take n body → rest ≡ drop n body → IsItem (optional types.Binary) binary_of octets (Some own) rest
binary_some octets sized first body size n own rest same code behind number long front back =
    let len : size ≡ length own = sym (ap length front ∙ length-take-le n body long ∙ number) in
    let parts : octets ≡ 0xA0 ∷ length own ∷ (own ++ rest) =
    same ∙ ap (λ (b : ℕ). b ∷ sized) code ∙ ap (λ (t : List ℕ). 0xA0 ∷ t) behind ∙ ap (λ (b : ℕ). 0xA0 ∷ b ∷ body) len
    ∙ ap (λ (t : List ℕ). 0xA0 ∷ length own ∷ t) (sym (take-append-drop n body) ∙ rw (front, back) refl) in
    rw parts (item (optional types.Binary) binary_of (0xA0 ∷ length own ∷ (own ++ rest)) (0xA0 ∷ length own ∷ own) (Sized texts.Binary own) rest (binary_is own rest) refl)

-- a null, or a state that a number describes: without fields, or with one that is true
pub state_null : (octets body : List ℕ) (first : ℕ) → octets ≡ first ∷ body → first ≡ 0x40 → IsItem (optional types.State) state_in octets None body
state_null octets body first same code = rw (same, code) (item (optional types.State) state_in (0x40 ∷ body) (0x40 ∷ []) Null body (null_is body) refl)

number_is : (levels n : ℕ) → IsValue (suc levels) (0x53 ∷ n ∷ []) (Ulong n)
unfolding IsValue IsData code_of scalar_of_code
number_is levels n = (codes.Fixed scalars.UlongOctet, refl, (n, record { len = refl; says = omega arith }, refl))

empty_is : (levels : ℕ) → IsValue (suc levels) (0x45 ∷ []) (Nested kinds.List 0 [])
unfolding IsValue IsData code_of scalar_of_code
empty_is levels = (codes.EmptyList, refl, (refl, refl))

true_in : (levels : ℕ) → IsValue (suc (suc levels)) (0xC0 ∷ 0x02 ∷ 0x01 ∷ 0x41 ∷ []) (Nested kinds.List 1 (0x41 ∷ []))
unfolding IsValue IsData code_of scalar_of_code
true_in levels = (
  codes.Nested kinds.List widths.One,
  refl,
  record {
    n = 1;
    body = 0x41 ∷ [];
    counted = record {
      count = 0x01 ∷ [];
      says = record { len = refl; says = omega arith };
      sized = record { size = 0x02 ∷ []; says = record { len = refl; says = omega arith }; parts = refl };
      few = omega arith;
    };
    paired = tt;
    items = (0x41 ∷ [], [], Boolean true, refl, (codes.Fixed scalars.True, refl, (refl, refl)), refl);
    is = refl;
  },
)

state_is : (n : ℕ) (list rest : List ℕ) (says : Part) → IsValue 29 list says → At (0x00 ∷ 0x53 ∷ n ∷ (list ++ rest)) (0x00 ∷ 0x53 ∷ n ∷ list) (Described (0x53 ∷ n ∷ []) list) rest
unfolding IsValue IsData code_of
state_is n list rest says is = record {
  parts = refl;
  is = (
    codes.Described,
    refl,
    record {
      descriptor = 0x53 ∷ n ∷ [];
      described = list;
      parts = refl;
      descriptor_says = Ulong n;
      descriptor_is = number_is 28 n;
      described_says = says;
      described_is = is;
      is = refl;
    },
  );
}

numbered : (n : ℕ) (list : List ℕ) (count : ℕ) (items : List ℕ) → IsValue 32 list (Nested kinds.List count items) → IsNumbered (Described (0x53 ∷ n ∷ []) list) n
numbered n list count items is =
    let descriptor : seen_of (0x53 ∷ n ∷ []) ≡ record { octets = 0x53 ∷ n ∷ []; part = Ulong n } = value_is (0x53 ∷ n ∷ []) (Ulong n) (number_is 31 n) in
    let described : seen_of list ≡ record { octets = list; part = Nested kinds.List count items } = value_is list (Nested kinds.List count items) is in
    rw (descriptor, described) refl

-- the state that a list is which a number describes
abbrev state_said : ℕ → List ℕ → StateFields
state_said n list = record { octets = 0x00 ∷ 0x53 ∷ n ∷ list; outcome = outcome_named (descriptor_of_code n) }

state_by : (n : ℕ) (list : List ℕ) (count : ℕ) (items rest : List ℕ) → ((levels : ℕ) → IsValue (suc (suc levels)) list (Nested kinds.List count items))
    → IsItem (optional types.State) state_in (0x00 ∷ 0x53 ∷ n ∷ (list ++ rest)) (Some (state_said n list)) rest
state_by n list count items rest is =
    let value : Seen = record { octets = 0x00 ∷ 0x53 ∷ n ∷ list; part = Described (0x53 ∷ n ∷ []) list } in
    let says : state_in value ≡ Some (state_said n list) = state_numbered value n (numbered n list count items (is 30)) in
    record { value = value; front = state_is n list rest (Nested kinds.List count items) (is 27); fits = refl; is = sym says }

pub state_some : (octets raw rest : List ℕ) (n : ℕ) (outcome : Option Outcome) → 4 ≤ length octets → slice_index_or octets 0 0 ≡ 0x00 → slice_index_or octets 1 0 ≡ 0x53 → slice_index_or octets 3 0 ≡ 0x45
    → raw ≡ take 4 octets → rest ≡ drop 4 octets → slice_index_or octets 2 0 ≡ n → outcome ≡ outcome_named (descriptor_of_code n)
    → IsItem (optional types.State) state_in octets (Some (record { octets = raw; outcome = outcome })) rest
state_some [] raw rest n outcome long a b c front back code said = absurd (omega (arith, long))
state_some (x ∷ []) raw rest n outcome long a b c front back code said = absurd (omega (arith, long))
state_some (x ∷ y ∷ []) raw rest n outcome long a b c front back code said = absurd (omega (arith, long))
state_some (x ∷ y ∷ z ∷ []) raw rest n outcome long a b c front back code said = absurd (omega (arith, long))
state_some (x ∷ y ∷ z ∷ w ∷ more) raw rest n outcome long a b c front back code said =
    rw (front, back, said, sym code, a, b, c) (state_by z (0x45 ∷ []) 0 [] more (λ levels. empty_is (suc levels)))

-- modified, with one field, which is true (part 3, 3.4.5)
pub failed_some : (octets raw rest : List ℕ) → 7 ≤ length octets → slice_index_or octets 0 0 ≡ 0x00 → slice_index_or octets 1 0 ≡ 0x53 → slice_index_or octets 2 0 ≡ 0x27
    → slice_index_or octets 3 0 ≡ 0xC0 → slice_index_or octets 4 0 ≡ 0x02 → slice_index_or octets 5 0 ≡ 0x01 → slice_index_or octets 6 0 ≡ 0x41
    → raw ≡ take 7 octets → rest ≡ drop 7 octets → IsItem (optional types.State) state_in octets (Some (record { octets = raw; outcome = Some Modified })) rest
unfolding descriptor_of_code
failed_some (a ∷ b ∷ c ∷ d ∷ e ∷ f ∷ g ∷ more) raw rest long is0 is1 is2 is3 is4 is5 is6 front back =
    rw (front, back, is0, is1, is2, is3, is4, is5, is6) (state_by 0x27 (0xC0 ∷ 0x02 ∷ 0x01 ∷ 0x41 ∷ []) 1 (0x41 ∷ []) more true_in)
failed_some [] raw rest long is0 is1 is2 is3 is4 is5 is6 front back = absurd (omega (arith, long))
failed_some (a ∷ []) raw rest long is0 is1 is2 is3 is4 is5 is6 front back = absurd (omega (arith, long))
failed_some (a ∷ b ∷ []) raw rest long is0 is1 is2 is3 is4 is5 is6 front back = absurd (omega (arith, long))
failed_some (a ∷ b ∷ c ∷ []) raw rest long is0 is1 is2 is3 is4 is5 is6 front back = absurd (omega (arith, long))
failed_some (a ∷ b ∷ c ∷ d ∷ []) raw rest long is0 is1 is2 is3 is4 is5 is6 front back = absurd (omega (arith, long))
failed_some (a ∷ b ∷ c ∷ d ∷ e ∷ []) raw rest long is0 is1 is2 is3 is4 is5 is6 front back = absurd (omega (arith, long))
failed_some (a ∷ b ∷ c ∷ d ∷ e ∷ f ∷ []) raw rest long is0 is1 is2 is3 is4 is5 is6 front back = absurd (omega (arith, long))
