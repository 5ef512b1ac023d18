-- The address of a message that lies in parts.
use Rattle.std.proofs.Common.{◌≡◌, refl, sym, ap, ◌∙◌, inl, inr, ℕ, zero, suc, ◌+◌, ◌-◌, ◌≤◌, ◌<◌, Bool, true, false, cond, List, [], ◌∷◌, length, take, Option, Some, None, Ok, Err, option_map, arith}
use Rattle.std.specs.Prelude.{nat_lt, ◌==◌, slice_index, is_some, option_and_then}
use Rattle.std.specs.Prelude.{codes as codes_of}
use Rattle.std.specs.Str.{bytes_eq}
use Rattle.std.proofs.lemmas.Bool.{le-ltb, lt-ltb}
use Rattle.std.proofs.lemmas.List.{take_all}
use Rattle.flow_counts.specs.declared.profile.TheConstants.{MAX_DEPTH}
use Rattle.amqp_types.specs.declared.code.Scalar.TheVariants as scalars
use Rattle.amqp_types.specs.declared.code.Code.{Code}
use Rattle.amqp_types.specs.declared.code.Code.TheVariants as codes
use Rattle.amqp_types.specs.Codes.{code_of}
use Rattle.amqp_types.specs.Part.{Part, Null, Described, Tagged, Seen}
use Rattle.amqp_types.specs.Reading.{◌>>=◌ as ◌>>>◌, Read, in_front, with_octets, coded_at, value_by, value_at, seen_at, data_at, described_at}
use Rattle.amqp_types.specs.Items.{is_value, seen_of, descriptor_of}
use Rattle.amqp_types.specs.Typed.{ulong_in, symbol_in, list_in}
use Rattle.amqp_types.proofs.Levels.{data_described}
use Rattle.amqp_types.proofs.PassedOver.{front_octets}
use Rattle.amqp_types.proofs.Held.{held_value}
use Rattle.amqp_perf.specs.Message.{section_of_code, section_of_name, section_by, section_says, section_in, section_read, address_in_properties, address_past, address_within, to_of}
use Rattle.amqp_cuts.specs.declared.section.Named.{Named}
use Rattle.amqp_cuts.specs.declared.section.Named.TheVariants.{PassedOver, Properties}
use Rattle.amqp_cuts.specs.Layout.{layout_of_code}
use Rattle.amqp_cuts.specs.Offsets.{◌>>=◌, window, octet_in}
use Rattle.amqp_cuts.specs.Passing.{past_value}
use Rattle.amqp_cuts.specs.Sections.{named_in, described_in, section_at, to_past, to_within}
use Rattle.amqp_cuts.proofs.Windows.{window_len, window_cons, window_empty, window_front}
use Rattle.amqp_cuts.proofs.Leaves.{Leaves, nat_cases}
use Rattle.amqp_cuts.proofs.Passed.{value_leaves}
use Rattle.amqp_cuts.proofs.Behind.{is_plain, IsLike, like}
use Rattle.amqp_cuts.proofs.Says.{named_of, named_is}
use Rattle.amqp_cuts.proofs.Listed.{lying, to_is}

-- ---- what a section says

-- what a section says that is named, of the value that it describes
abbrev says_of : Option Named → Part → Option (Option (List Seen))
says_of None part = None
says_of (Some PassedOver) part = Some None
says_of (Some Properties) part = option_map Some (list_in part)

abbrev kind_of_code : ℕ → Option Named
kind_of_code n = option_map (λ section. cond (is_some (section_says section Null)) PassedOver Properties) (section_of_code n)

abbrev kind_of_name : List ℕ → Option Named
kind_of_name name = option_map (λ section. cond (is_some (section_says section Null)) PassedOver Properties) (section_of_name name)

-- what one of four sections says that tests choose among
chosen_says : {S : Type 0} (says : S → Option (Option (List Seen))) (name : S → Named) (part : Part) (w x y z : S) → says w ≡ says_of (Some (name w)) part → says x ≡ says_of (Some (name x)) part
    → says y ≡ says_of (Some (name y)) part → says z ≡ says_of (Some (name z)) part → (a b c d : Bool)
    → option_and_then says (cond a (Some w) (cond b (Some x) (cond c (Some y) (cond d (Some z) None))))
    ≡ says_of (option_map name (cond a (Some w) (cond b (Some x) (cond c (Some y) (cond d (Some z) None))))) part
chosen_says says name part w x y z p q r s true b c d = p
chosen_says says name part w x y z p q r s false true c d = q
chosen_says says name part w x y z p q r s false false true d = r
chosen_says says name part w x y z p q r s false false false true = s
chosen_says says name part w x y z p q r s false false false false = refl

code_says : (n : ℕ) (part : Part) → option_and_then (λ section. section_says section part) (section_of_code n) ≡ says_of (kind_of_code n) part
unfolding section_of_code
code_says n part =
    chosen_says (λ section. section_says section part) (λ section. cond (is_some (section_says section Null)) PassedOver Properties) part _ _ _ _ refl refl refl refl
    (n == 0x70) (n == 0x71) (n == 0x72) (n == 0x73)

name_says : (name : List ℕ) (part : Part) → option_and_then (λ section. section_says section part) (section_of_name name) ≡ says_of (kind_of_name name) part
unfolding section_of_name
name_says name part =
    chosen_says (λ section. section_says section part) (λ section. cond (is_some (section_says section Null)) PassedOver Properties) part _ _ _ _ refl refl refl refl
    (bytes_eq name (codes_of "amqp:header:list")) (bytes_eq name (codes_of "amqp:delivery-annotations:map")) (bytes_eq name (codes_of "amqp:message-annotations:map")) (bytes_eq name (codes_of "amqp:properties:list"))

by_says : (code : Option ℕ) (name : Option (List ℕ)) (part : Part) → option_and_then (λ section. section_says section part) (section_by code name) ≡ says_of (option_map (λ section. cond (is_some (section_says section Null)) PassedOver Properties) (section_by code name)) part
by_says (Some code) name part = code_says code part
by_says None (Some name) part = name_says name part
by_says None None part = refl

-- a section by the descriptor and the value that it describes
pair_says : (descriptor described : List ℕ) → section_in (Described descriptor described) ≡ says_of (named_of (seen_of descriptor).part) (seen_of described).part
pair_says descriptor described = by_says (ulong_in (seen_of descriptor).part) (symbol_in (seen_of descriptor).part) (seen_of described).part

-- no other value is a section
plain_alone : (part : Part) → is_plain part ≡ true → descriptor_of part ≡ None
plain_alone (Described descriptor described) e = absurd cc
plain_alone (Tagged descriptor constructor octets) e = absurd cc
plain_alone other e = refl

alone : (code : Code) (part : Part) → (code ≡ codes.Described → ⊥) → IsLike code part → descriptor_of part ≡ None
alone (codes.Fixed scalar) part other is = plain_alone part is
alone (codes.Sized text width) part other is = ap descriptor_of is.1
alone codes.EmptyList part other is = ap descriptor_of is
alone (codes.Nested kind width) part other is = ap descriptor_of is.2
alone (codes.Array width) part other is = ap descriptor_of is.3
alone codes.Described part other is = absurd (other refl)

no_section : (part : Part) → descriptor_of part ≡ None → section_in part ≡ None
no_section part none = rw none refl

-- ---- a section that is read

-- what a value that was read says, and the octets behind it
abbrev part_section : Read Part → Option (Option (List Seen) × List ℕ)
part_section (Ok x) = option_map (λ says. (says, x.1)) (section_in x.0)
part_section (Err d) = None

octets_section : (bytes : List ℕ) (r : Read Part) → section_read (with_octets bytes r) ≡ part_section r
octets_section bytes (Ok x) = refl
octets_section bytes (Err d) = refl

-- a section at a place, and what is read there
abbrev SectionSays : List ℕ → ℕ → Option (Named × ℕ × ℕ) → Option (Option (List Seen) × List ℕ) → Type 0
SectionSays octets to None s = s ≡ None
SectionSays octets to (Some x) s =
    (s ≡ option_map (λ says. (says, window octets x.2 to)) (says_of (Some x.0) (seen_of (window octets x.1 x.2)).part)) × (is_value (window octets x.1 x.2) ≡ true) × (x.1 ≤ x.2) × (x.2 ≤ to)

-- the octets in front of others
front_is : (octets : List ℕ) (at next to : ℕ) → at ≤ next → next ≤ to → to ≤ length octets → in_front (window octets at to) (window octets next to) ≡ window octets at next
front_is octets at next to order below room =
    let count : length (window octets at to) - length (window octets next to) ≡ next - at = omega (arith, window_len octets at to room, window_len octets next to room, order, below) in
    ap (λ (n : ℕ). take n (window octets at to)) count ∙ window_front octets at next to below

-- a value that was read lies up to the octets behind it
value_lies : (octets : List ℕ) (levels k at next to : ℕ) (x : Seen × List ℕ) → levels ≤ MAX_DEPTH → at ≤ next → next ≤ to → to ≤ length octets → seen_at levels k (window octets at to) ≡ Ok x → x.1 ≡ window octets next to
    → (x.0.octets ≡ window octets at next) × (is_value (window octets at next) ≡ true)
value_lies octets levels k at next to x deep order below room read rest =
    let same : x.0.octets ≡ window octets at next = front_octets levels k (window octets at to) x read ∙ ap (in_front (window octets at to)) rest ∙ front_is octets at next to order below room in
    (same, ap is_value (sym same) ∙ held_value levels k (window octets at to) x deep read)

named_says : (octets : List ℕ) (value end to : ℕ) (name : Option Named) → is_value (window octets value end) ≡ true → value ≤ end → end ≤ to
    → SectionSays octets to (name >>= λ name. Some (name, value, end)) (option_map (λ says. (says, window octets end to)) (says_of name (seen_of (window octets value end)).part))
named_says octets value end to None is order below = refl
named_says octets value end to (Some name) is order below = (refl, is, order, below)

second_says : (octets : List ℕ) (k at value to : ℕ) (descriptor : List ℕ) (r : Option ℕ) (s : Read Seen) → at ≤ value → value ≤ to → to ≤ length octets → descriptor ≡ window octets at value
    → seen_at 31 k (window octets value to) ≡ s → Leaves octets value to r s
    → SectionSays octets to (r >>= λ end. named_in octets at value >>= λ name. Some (name, value, end)) (part_section (s >>> λ described. Ok (Described descriptor described.0.octets, described.1)))
second_says octets k at value to descriptor None (Err d) order below room same read is = refl
second_says octets k at value to descriptor None (Ok x) order below room same read is = absurd is
second_says octets k at value to descriptor (Some end) (Err d) order below room same read is = absurd is
second_says octets k at value to descriptor (Some end) (Ok x) order below room same read is =
    let lies = value_lies octets 31 k value end to x (omega arith) is.1 is.2 room read is.0 in
    let says = pair_says descriptor x.0.octets in
    let named : named_of (seen_of descriptor).part ≡ named_in octets at value = ap (λ (t : List ℕ). named_of (seen_of t).part) same ∙ sym (named_is octets at value order (omega (arith, below, room))) in
    rw (says, named, lies.0, is.0) (named_says octets value end to (named_in octets at value) lies.1 is.1 is.2)

first_value : (octets : List ℕ) (at to : ℕ) (r : Option ℕ) (s : Read Seen) → to ≤ length octets → seen_at 31 1 (window octets at to) ≡ s → Leaves octets at to r s
    → SectionSays octets to (r >>= λ value. past_value octets 31 value to >>= λ end. named_in octets at value >>= λ name. Some (name, value, end))
    (part_section (s >>> λ descriptor. seen_at 31 (0 + 1 + length descriptor.0.octets) descriptor.1 >>> λ described. Ok (Described descriptor.0.octets described.0.octets, described.1)))
first_value octets at to None (Err d) room read is = refl
first_value octets at to None (Ok x) room read is = absurd is
first_value octets at to (Some value) (Err d) room read is = absurd is
first_value octets at to (Some value) (Ok x) room read is =
    let lies = value_lies octets 31 1 at value to x (omega arith) is.1 is.2 room read is.0 in
    rw is.0 (second_says octets (0 + 1 + length x.0.octets) at value to x.0.octets (past_value octets 31 value to) (seen_at 31 (0 + 1 + length x.0.octets) (window octets value to)) is.1 is.2 room lies.0 refl (value_leaves octets 31 (0 + 1 + length x.0.octets) value to is.2 room))

described_says : (octets : List ℕ) (at to : ℕ) → at ≤ to → to ≤ length octets → SectionSays octets to (past_value octets 31 at to >>= λ value. past_value octets 31 value to >>= λ end. named_in octets at value >>= λ name. Some (name, value, end))
    (part_section (described_at (seen_at 31) 0 (window octets at to)))
unfolding described_at
described_says octets at to order room = first_value octets at to (past_value octets 31 at to) (seen_at 31 1 (window octets at to)) room refl (value_leaves octets 31 1 at to order room)

alone_says : (code : Code) (bytes : List ℕ) → (code ≡ codes.Described → ⊥) → part_section (data_at MAX_DEPTH 0 code 0 bytes) ≡ None
alone_says code bytes other = way (data_at MAX_DEPTH 0 code 0 bytes) refl
  where
    way : (r : Read Part) → data_at MAX_DEPTH 0 code 0 bytes ≡ r → part_section r ≡ None
    way (Ok x) e = ap (λ (s : Option (Option (List Seen))). option_map (λ (says : Option (List Seen)). (says, x.1)) s) (no_section x.0 (alone code x.0 other (like code bytes x e)))
    way (Err d) e = refl

coded_says : (octets : List ℕ) (at to : ℕ) (code : Option Code) → at ≤ to → to ≤ length octets
    → SectionSays octets to (described_in (option_map layout_of_code code) octets at to) (part_section (coded_at (data_at MAX_DEPTH 0) 0 (window octets at to) code))
unfolding described_in coded_at
coded_says octets at to None order room = refl
coded_says octets at to (Some codes.Described) order room =
    rw (data_described MAX_DEPTH 0 (window octets at to) (omega arith)) (described_says octets at to order room)
coded_says octets at to (Some (codes.Fixed scalars.Boolean)) order room = alone_says (codes.Fixed scalars.Boolean) (window octets at to) (λ e. cc)
coded_says octets at to (Some (codes.Fixed other)) order room = alone_says (codes.Fixed other) (window octets at to) (λ e. cc)
coded_says octets at to (Some other) order room = alone_says other (window octets at to) (λ e. cc)

section_there : (octets : List ℕ) (at to : ℕ) → at < to → to ≤ length octets → SectionSays octets to (section_at octets at to) (section_read (seen_at MAX_DEPTH 0 (slice_index octets at ∷ window octets (at + 1) to)))
unfolding section_at octet_in seen_at value_at value_by
section_there octets at to lt room =
    let there : nat_lt at to ≡ true = lt-ltb _ _ lt in
    let first = slice_index octets at in
    let rest = window octets (at + 1) to in
    rw (there, octets_section (first ∷ rest) (coded_at (data_at MAX_DEPTH 0) 0 rest (code_of first))) (coded_says octets (at + 1) to (code_of first) (omega (arith, lt)) room)

section_absent : (octets : List ℕ) (at to : ℕ) → to ≤ at → SectionSays octets to (section_at octets at to) (section_read (seen_at MAX_DEPTH 0 []))
unfolding section_at octet_in seen_at value_at value_by
section_absent octets at to le =
    let absent : nat_lt at to ≡ false = le-ltb _ _ le in
    rw absent refl

-- the section at the front is the one that is read
section_is : (octets : List ℕ) (at to : ℕ) → at ≤ to → to ≤ length octets → SectionSays octets to (section_at octets at to) (section_read (seen_at MAX_DEPTH 0 (window octets at to)))
section_is octets at to order room = elim (nat_cases at to) [
  | inl lt ↦ rw (window_cons octets at to lt room) (section_there octets at to lt room)
  | inr le ↦ rw (window_empty octets at to le) (section_absent octets at to le)
]

-- ---- the whole message

past_by : (octets : List ℕ) (section : Option (Named × ℕ × ℕ)) (s : Option (Option (List Seen) × List ℕ)) (others : ℕ → Option (ℕ × ℕ)) (behind : List ℕ → Option (List ℕ))
    → ((at : ℕ) → at ≤ length octets → lying octets (others at) ≡ behind (window octets at (length octets))) → SectionSays octets (length octets) section s → lying octets (to_past section octets others) ≡ address_past s behind
past_by octets None s others behind each is = sym (ap (λ (o : Option (Option (List Seen) × List ℕ)). address_past o behind) is)
past_by octets (Some (PassedOver, value, end)) s others behind each is = each end is.3 ∙ sym (ap (λ (o : Option (Option (List Seen) × List ℕ)). address_past o behind) is.0)
past_by octets (Some (Properties, value, end)) s others behind each is =
    to_is octets value end is.3 is.1 ∙ sym (ap (λ (o : Option (Option (List Seen) × List ℕ)). address_past o behind) is.0 ∙ listed (list_in (seen_of (window octets value end)).part))
  where
    listed : (list : Option (List Seen)) → address_past (option_map (λ (says : Option (List Seen)). (says, window octets end (length octets))) (option_map Some list)) behind ≡ option_and_then address_in_properties list
    listed None = refl
    listed (Some fields) = refl

within_is : (octets : List ℕ) (n at : ℕ) → at ≤ length octets → lying octets (to_within octets n at) ≡ address_within n (window octets at (length octets))
unfolding to_within address_within
within_is octets zero at order = refl
within_is octets (suc n) at order =
    past_by octets (section_at octets at (length octets)) (section_read (seen_at MAX_DEPTH 0 (window octets at (length octets)))) (to_within octets n) (address_within n)
    (within_is octets n) (section_is octets at (length octets) order (omega arith))

-- the address of a message, by the offsets at which it lies
pub to_of_is : (octets : List ℕ) → lying octets (to_within octets (length octets) 0) ≡ to_of octets
unfolding to_of
to_of_is octets = within_is octets (length octets) 0 (omega arith) ∙ ap (address_within (length octets)) (take_all (length octets - 0) octets (omega arith))
