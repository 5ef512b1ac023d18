-- What descriptors, lists and strings say that lie in parts.
use Rattle.std.proofs.Common.{◌≡◌, refl, sym, ap, subst, ◌∙◌, inl, inr, ℕ, ◌+◌, ◌≤◌, ◌<◌, Bool, true, false, cond, List, length, drop, Option, Some, None, Ok, Err, option_map, arith}
use Rattle.std.specs.Prelude.{nat_lt, ◌==◌, slice_index, is_some}
use Rattle.std.specs.Prelude.{codes as codes_of}
use Rattle.std.specs.Str.{bytes_eq}
use Rattle.std.proofs.lemmas.Bool.{le-ltb, lt-ltb}
use Rattle.std.proofs.lemmas.Slice.Eq.{bytes_eq-Decides}
use Rattle.byteorder.specs.Endian.{big_number}
use Rattle.amqp_types.specs.declared.fault.ValueFaultKind.TheVariants.{BadText, BadBoolean}
use Rattle.amqp_types.specs.declared.code.Scalar.{Scalar}
use Rattle.amqp_types.specs.declared.code.Scalar.TheVariants as scalars
use Rattle.amqp_types.specs.declared.code.Text.TheVariants as texts
use Rattle.amqp_types.specs.declared.code.Code.{Code}
use Rattle.amqp_types.specs.declared.code.Code.TheVariants as codes
use Rattle.amqp_types.specs.Codes.{code_of, width_of}
use Rattle.amqp_types.specs.Part.{Part, Null, Boolean, Sized}
use Rattle.amqp_types.specs.Reading.{◌>>=◌ as ◌>>>◌, Read, fault, octets_at, sized_at, placed, scalar_of, is_text, fixed_at, text_at, data_at, data_by}
use Rattle.amqp_types.specs.Items.{seen_of}
use Rattle.amqp_types.specs.Typed.{str_in}
use Rattle.amqp_perf.specs.Message.{section_of_code, section_of_name, section_named, section_says}
use Rattle.amqp_cuts.proofs.Tests.{refused}
use Rattle.amqp_cuts.specs.declared.layout.Layout.{Layout}
use Rattle.amqp_cuts.specs.declared.section.Named.{Named}
use Rattle.amqp_cuts.specs.declared.section.Named.TheVariants.{PassedOver, Properties}
use Rattle.amqp_cuts.specs.Layout.{layout_of_scalar, layout_of_code, layout_of}
use Rattle.amqp_cuts.specs.Offsets.{◌>>=◌, window, octet_in, past, sized_in}
use Rattle.amqp_cuts.specs.Sections.{named_by_code, named_by_name, named_by, named_in, string_by, string_at}
use Rattle.amqp_cuts.proofs.Windows.{window_cons, window_empty}
use Rattle.amqp_cuts.proofs.Pieces.{Cut, SizedCut, cut, sized_cut, window_number}
use Rattle.amqp_cuts.proofs.Leaves.{nat_cases, past_one, past_none, octet_alone, window_one}
use Rattle.amqp_cuts.proofs.Behind.{part_read, part_behind, seen_part, seen_nothing, is_plain, unlike}

-- the octet at the front, and what is read behind it
pub first_says : {A : Type 0} (P : Option A → Part → Type 0) (by : Layout → ℕ → ℕ → Option A) (octets : List ℕ) (at to : ℕ) → at ≤ to → to ≤ length octets → P None Null
    → ((code : Code) (at : ℕ) → at ≤ to → P (by (layout_of_code code) at to) (part_behind (Some code) (window octets at to)))
    → P (octet_in octets at to >>= λ first. layout_of first >>= λ layout. by layout (at + 1) to) (seen_of (window octets at to)).part
unfolding octet_in
first_says P by octets at to order room nothing behind = elim (nat_cases at to) [
  | inl lt ↦
      let there : nat_lt at to ≡ true = lt-ltb _ _ lt in
      let first = slice_index octets at in
      rw (there, window_cons octets at to lt room, seen_part first (window octets (at + 1) to)) (coded (code_of (slice_index octets at)) lt)
  | inr le ↦
      let absent : nat_lt at to ≡ false = le-ltb _ _ le in
      rw (absent, window_empty octets at to le, seen_nothing) nothing
]
  where
    coded : (code : Option Code) → at < to → P (option_map layout_of_code code >>= λ layout. by layout (at + 1) to) (part_behind code (window octets (at + 1) to))
    coded None lt = nothing
    coded (Some code) lt = behind code (at + 1) (omega (arith, lt))

-- ---- descriptors

-- the section that a value names
abbrev pub named_of : Part → Option Named
named_of part = option_map (λ section. cond (is_some (section_says section Null)) PassedOver Properties) (section_named part)

-- the data of a type of fixed width, of octets that were read or not
abbrev fixed_of : Scalar → Read (List ℕ) → Read Part
fixed_of scalar s = s >>> λ octets. placed 0 (scalar_of scalar octets.0) >>> λ part. Ok (part, octets.1)

abbrev is_ulong : Scalar → Bool
is_ulong scalars.UlongOctet = true
is_ulong scalars.Ulong = true
is_ulong other = false

no_boolean : (a b : Bool) (rest : List ℕ) → named_of (part_read (placed 0 (cond a (Ok (Boolean false)) (cond b (Ok (Boolean true)) (Err BadBoolean))) >>> λ part. Ok (part, rest))) ≡ None
no_boolean true b rest = refl
no_boolean false true rest = refl
no_boolean false false rest = refl

scalar_unnamed : (scalar : Scalar) (s : Read (List ℕ)) → is_ulong scalar ≡ false → named_of (part_read (fixed_of scalar s)) ≡ None
unfolding scalar_of section_of_code
scalar_unnamed scalar (Err d) e = refl
scalar_unnamed scalars.UlongOctet (Ok x) e = absurd cc
scalar_unnamed scalars.Ulong (Ok x) e = absurd cc
scalar_unnamed scalars.Boolean (Ok x) e = no_boolean (big_number 1 x.0 == 0) (big_number 1 x.0 == 1) x.1
scalar_unnamed other (Ok x) e = refl

octet_code : (octets : List ℕ) (at to : ℕ) (s : Read (List ℕ)) → at < to → to ≤ length octets → Cut octets 1 at to (Some (at + 1)) s → named_by_code (slice_index octets at) ≡ named_of (part_read (fixed_of scalars.UlongOctet s))
unfolding scalar_of
octet_code octets at to (Err d) lt room is = absurd is
octet_code octets at to (Ok x) lt room is =
    ap named_by_code (sym (ap (big_number 1) (is.1 ∙ window_one octets at to lt room) ∙ octet_alone (slice_index octets at)))

octet_absent : (octets : List ℕ) (at to : ℕ) (s : Read (List ℕ)) → Cut octets 1 at to None s → None ≡ named_of (part_read (fixed_of scalars.UlongOctet s))
octet_absent octets at to (Err d) is = refl
octet_absent octets at to (Ok x) is = absurd is

octet_named : (octets : List ℕ) (at to : ℕ) → at ≤ to → to ≤ length octets → (octet_in octets at to >>= λ code. named_by_code code) ≡ named_of (part_read (fixed_of scalars.UlongOctet (octets_at 1 0 (window octets at to))))
unfolding octet_in
octet_named octets at to order room = elim (nat_cases at to) [
  | inl lt ↦
      let there : nat_lt at to ≡ true = lt-ltb _ _ lt in
      rw there (octet_code octets at to (octets_at 1 0 (window octets at to)) lt room (subst (λ (r : Option ℕ). Cut octets 1 at to r (octets_at 1 0 (window octets at to))) (past_one at to lt) (cut octets 1 0 at to order room)))
  | inr le ↦
      let absent : nat_lt at to ≡ false = le-ltb _ _ le in
      rw absent (octet_absent octets at to (octets_at 1 0 (window octets at to)) (subst (λ (r : Option ℕ). Cut octets 1 at to r (octets_at 1 0 (window octets at to))) (past_none at to le) (cut octets 1 0 at to order room)))
]

long_named : (octets : List ℕ) (at to : ℕ) (r : Option ℕ) (s : Read (List ℕ)) → Cut octets 8 at to r s → (r >>= λ next. named_by_code (big_number 8 (drop at octets))) ≡ named_of (part_read (fixed_of scalars.Ulong s))
unfolding scalar_of
long_named octets at to None (Err d) is = refl
long_named octets at to None (Ok x) is = absurd is
long_named octets at to (Some next) (Err d) is = absurd is
long_named octets at to (Some next) (Ok x) is =
    ap named_by_code (sym (ap (big_number 8) is.1 ∙ window_number octets 8 at next (omega (arith, is.0))))

-- what is no ASCII is no name
never : (b : Bool) → b ≡ true → b ≡ false → ⊥
never b one other = absurd cc

not_same : (name ascii : List ℕ) → is_text texts.Symbol name ≡ false → is_text texts.Symbol ascii ≡ true → bytes_eq name ascii ≡ false
not_same name ascii high low =
    refused (bytes_eq name ascii) (λ t. never (is_text texts.Symbol name) (ap (is_text texts.Symbol) ((bytes_eq-Decides name ascii).0 t) ∙ low) high)

no_name : (name : List ℕ) → is_text texts.Symbol name ≡ false → named_by_name name ≡ None
unfolding section_of_name is_text
no_name name high =
    let header : bytes_eq name (codes_of "amqp:header:list") ≡ false = not_same name (codes_of "amqp:header:list") high refl in
    let delivery : bytes_eq name (codes_of "amqp:delivery-annotations:map") ≡ false = not_same name (codes_of "amqp:delivery-annotations:map") high refl in
    let message : bytes_eq name (codes_of "amqp:message-annotations:map") ≡ false = not_same name (codes_of "amqp:message-annotations:map") high refl in
    let properties : bytes_eq name (codes_of "amqp:properties:list") ≡ false = not_same name (codes_of "amqp:properties:list") high refl in
    rw (header, delivery, message, properties) refl

symbol_if : (name rest : List ℕ) (is : Bool) → is_text texts.Symbol name ≡ is → named_by_name name ≡ named_of (part_read (cond is (Ok (Sized texts.Symbol name, rest)) (fault BadText 0)))
symbol_if name rest true is = refl
symbol_if name rest false is = no_name name is

symbol_named : (octets : List ℕ) (at to : ℕ) (r : Option (ℕ × ℕ)) (s : Read (List ℕ)) → SizedCut octets at to r s
    → (r >>= λ name. named_by_name (window octets name.0 name.1)) ≡ named_of (part_read (s >>> λ octets. cond (is_text texts.Symbol octets.0) (Ok (Sized texts.Symbol octets.0, octets.1)) (fault BadText 0)))
symbol_named octets at to None (Err d) is = refl
symbol_named octets at to None (Ok x) is = absurd is
symbol_named octets at to (Some p) (Err d) is = absurd is
symbol_named octets at to (Some p) (Ok x) is = rw is.0 (symbol_if (window octets p.0 p.1) x.1 (is_text texts.Symbol (window octets p.0 p.1)) refl)

fixed_named : (octets : List ℕ) (scalar : Scalar) (at to : ℕ) → at ≤ to → to ≤ length octets → named_by (layout_of_scalar scalar) octets at to ≡ named_of (part_read (fixed_at scalar 0 (window octets at to)))
unfolding named_by fixed_at
fixed_named octets scalars.UlongOctet at to order room = octet_named octets at to order room
fixed_named octets scalars.Ulong at to order room = long_named octets at to (past 8 at to) (octets_at 8 0 (window octets at to)) (cut octets 8 0 at to order room)
fixed_named octets other at to order room = sym (scalar_unnamed other (octets_at (width_of other) 0 (window octets at to)) refl)

named_behind : (octets : List ℕ) (to : ℕ) → to ≤ length octets → (code : Code) (at : ℕ) → at ≤ to → named_by (layout_of_code code) octets at to ≡ named_of (part_behind (Some code) (window octets at to))
unfolding named_by data_at data_by text_at
named_behind octets to room (codes.Fixed scalar) at order = fixed_named octets scalar at to order room
named_behind octets to room (codes.Sized texts.Symbol width) at order = symbol_named octets at to (sized_in width octets at to) (sized_at width 0 (window octets at to)) (sized_cut octets width 0 at to order room)
named_behind octets to room (codes.Sized texts.Str width) at order =
    sym (unlike named_of (codes.Sized texts.Str width) (window octets at to) refl (λ part is. ap named_of is.1))
named_behind octets to room (codes.Sized texts.Binary width) at order =
    sym (unlike named_of (codes.Sized texts.Binary width) (window octets at to) refl (λ part is. ap named_of is.1))
named_behind octets to room codes.EmptyList at order = sym (unlike named_of codes.EmptyList (window octets at to) refl (λ part is. ap named_of is))
named_behind octets to room (codes.Nested kind width) at order = sym (unlike named_of (codes.Nested kind width) (window octets at to) refl (λ part is. ap named_of is.2))
named_behind octets to room (codes.Array width) at order = sym (unlike named_of (codes.Array width) (window octets at to) refl (λ part is. ap named_of is.3))
named_behind octets to room codes.Described at order = sym (unlike named_of codes.Described (window octets at to) refl (λ part is. ap named_of is.2))

-- a descriptor names the same section
pub named_is : (octets : List ℕ) (at to : ℕ) → at ≤ to → to ≤ length octets → named_in octets at to ≡ named_of (seen_of (window octets at to)).part
unfolding named_in
named_is octets at to order room =
    first_says (λ (r : Option Named) (part : Part). r ≡ named_of part) (λ layout at to. named_by layout octets at to) octets at to order room refl (named_behind octets to room)

-- ---- strings

-- where a string lies, and what it says
abbrev pub StringSays : List ℕ → ℕ → Option (ℕ × ℕ) → Part → Type 0
StringSays octets to None part = str_in part ≡ None
StringSays octets to (Some p) part = (str_in part ≡ Some (window octets p.0 p.1)) × (p.0 ≤ p.1) × (p.1 ≤ to)

plain_string : (part : Part) → is_plain part ≡ true → str_in part ≡ None
plain_string (Sized text octets) e = absurd cc
plain_string other e = refl

string_if : (octets : List ℕ) (first end to : ℕ) (rest : List ℕ) (is : Bool) → first ≤ end → end ≤ to
    → StringSays octets to (cond is (Some (first, end)) None) (part_read (cond is (Ok (Sized texts.Str (window octets first end), rest)) (fault BadText 0)))
string_if octets first end to rest true order below = (refl, order, below)
string_if octets first end to rest false order below = refl

string_by_size : (octets : List ℕ) (at to : ℕ) (r : Option (ℕ × ℕ)) (s : Read (List ℕ)) → SizedCut octets at to r s
    → StringSays octets to (r >>= λ text. cond (is_text texts.Str (window octets text.0 text.1)) (Some text) None) (part_read (s >>> λ octets. cond (is_text texts.Str octets.0) (Ok (Sized texts.Str octets.0, octets.1)) (fault BadText 0)))
string_by_size octets at to None (Err d) is = refl
string_by_size octets at to None (Ok x) is = absurd is
string_by_size octets at to (Some p) (Err d) is = absurd is
string_by_size octets at to (Some p) (Ok x) is = rw is.0 (string_if octets p.0 p.1 to x.1 (is_text texts.Str (window octets p.0 p.1)) is.3 is.4)

string_behind : (octets : List ℕ) (to : ℕ) → to ≤ length octets → (code : Code) (at : ℕ) → at ≤ to → StringSays octets to (string_by (layout_of_code code) octets at to) (part_behind (Some code) (window octets at to))
unfolding string_by data_at data_by text_at
string_behind octets to room (codes.Fixed scalars.Boolean) at order = unlike str_in (codes.Fixed scalars.Boolean) (window octets at to) refl plain_string
string_behind octets to room (codes.Fixed other) at order = unlike str_in (codes.Fixed other) (window octets at to) refl plain_string
string_behind octets to room (codes.Sized texts.Str width) at order = string_by_size octets at to (sized_in width octets at to) (sized_at width 0 (window octets at to)) (sized_cut octets width 0 at to order room)
string_behind octets to room (codes.Sized texts.Symbol width) at order = unlike str_in (codes.Sized texts.Symbol width) (window octets at to) refl (λ part is. ap str_in is.1)
string_behind octets to room (codes.Sized texts.Binary width) at order = unlike str_in (codes.Sized texts.Binary width) (window octets at to) refl (λ part is. ap str_in is.1)
string_behind octets to room codes.EmptyList at order = unlike str_in codes.EmptyList (window octets at to) refl (λ part is. ap str_in is)
string_behind octets to room (codes.Nested kind width) at order = unlike str_in (codes.Nested kind width) (window octets at to) refl (λ part is. ap str_in is.2)
string_behind octets to room (codes.Array width) at order = unlike str_in (codes.Array width) (window octets at to) refl (λ part is. ap str_in is.3)
string_behind octets to room codes.Described at order = unlike str_in codes.Described (window octets at to) refl (λ part is. ap str_in is.2)

-- a string says the same
pub string_says : (octets : List ℕ) (at to : ℕ) → at ≤ to → to ≤ length octets → StringSays octets to (string_at octets at to) (seen_of (window octets at to)).part
unfolding string_at
string_says octets at to order room =
    first_says (λ (r : Option (ℕ × ℕ)) (part : Part). StringSays octets to r part) (λ layout at to. string_by layout octets at to) octets at to order room refl (string_behind octets to room)
