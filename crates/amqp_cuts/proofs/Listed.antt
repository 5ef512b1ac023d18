-- The address in properties that lie in parts.
use Rattle.std.proofs.Common.{◌≡◌, refl, sym, ap, ◌∙◌, ℕ, zero, suc, ◌+◌, ◌-◌, ◌≤◌, ◌<◌, Bool, true, false, ◌&&◌, cond, List, [], ◌∷◌, length, Option, Some, None, Ok, Err, option_map, arith}
use Rattle.std.specs.Prelude.{nat_lt, nat_le, slice_index, option_and_then}
use Rattle.std.proofs.lemmas.Bool.{le-ltb, lt-ltb}
use Rattle.flow_counts.specs.declared.profile.TheConstants.{MAX_ADDRESS, MAX_DEPTH}
use Rattle.amqp_types.specs.declared.code.Kind.TheVariants as kinds
use Rattle.amqp_types.specs.declared.code.SizeWidth.{SizeWidth}
use Rattle.amqp_types.specs.declared.code.Scalar.TheVariants as scalars
use Rattle.amqp_types.specs.declared.code.Code.{Code}
use Rattle.amqp_types.specs.declared.code.Code.TheVariants as codes
use Rattle.amqp_types.specs.Codes.{code_of}
use Rattle.amqp_types.specs.Part.{Part, Nested, Seen}
use Rattle.amqp_types.specs.Reading.{Read, counted_at, nested_at, data_at, data_by, seen_at, item_at}
use Rattle.amqp_types.specs.Items.{is_read, is_value, seen_of, seen_or_null, items_in, seen_then}
use Rattle.amqp_types.specs.Typed.{str_in, list_in}
use Rattle.amqp_types.proofs.Levels.{data_nested}
use Rattle.amqp_types.proofs.ReadBefore.{known_counted, known_items, known_first, known_code, known_behind}
use Rattle.amqp_types.proofs.Held.{whole_read}
use Rattle.amqp_perf.specs.FieldPlaces.{missing, first, field_at}
use Rattle.amqp_perf.specs.Message.{address_of, address_in_properties}
use Rattle.amqp_cuts.specs.Layout.{layout_of_code}
use Rattle.amqp_cuts.specs.Offsets.{◌>>=◌, window, octet_in, counted_in}
use Rattle.amqp_cuts.specs.Passing.{past_value}
use Rattle.amqp_cuts.specs.Sections.{list_by, list_at, string_at, address_at, third_at, to_in}
use Rattle.amqp_cuts.proofs.Windows.{window_len, window_cons}
use Rattle.amqp_cuts.proofs.Pieces.{CountedCut, counted_cut}
use Rattle.amqp_cuts.proofs.Leaves.{Leaves}
use Rattle.amqp_cuts.proofs.Passed.{value_leaves}
use Rattle.amqp_cuts.proofs.Behind.{part_read, part_behind, seen_part, is_plain, IsLike, unlike}
use Rattle.amqp_cuts.proofs.Says.{StringSays, string_says}

-- the octets of a place
abbrev pub lying : List ℕ → Option (ℕ × ℕ) → Option (List ℕ)
lying octets place = option_map (λ p. window octets p.0 p.1) place

-- ---- an address

address_if : (octets : List ℕ) (p : ℕ × ℕ) (fits : Bool) → lying octets (cond fits (Some p) None) ≡ cond fits (Some (window octets p.0 p.1)) None
address_if octets p true = refl
address_if octets p false = refl

address_by : (octets : List ℕ) (to : ℕ) (r : Option (ℕ × ℕ)) (part : Part) → to ≤ length octets → StringSays octets to r part
    → lying octets (r >>= λ text. cond (nat_le 1 (text.1 - text.0) && nat_le (text.1 - text.0) MAX_ADDRESS) (Some text) None) ≡ option_and_then address_of (str_in part)
address_by octets to None part room is = sym (ap (option_and_then address_of) is)
address_by octets to (Some p) part room is =
    let len = window_len octets p.0 p.1 (omega (arith, is.2, room)) in
    rw (is.0, len) (address_if octets p (nat_le 1 (p.1 - p.0) && nat_le (p.1 - p.0) MAX_ADDRESS))

address_is : (octets : List ℕ) (at to : ℕ) → at ≤ to → to ≤ length octets → lying octets (address_at octets at to) ≡ option_and_then address_of (str_in (seen_of (window octets at to)).part)
unfolding address_at
address_is octets at to order room =
    address_by octets to (string_at octets at to) (seen_of (window octets at to)).part room (string_says octets at to order room)

-- ---- the third of some items

-- the first of some items is what the octets say, or missing
first_item : (octets : List ℕ) (r : Read Seen) (behind : List ℕ → List Seen) → (first (seen_then r behind)).part ≡ (seen_or_null octets r).part
first_item octets (Ok x) behind = refl
first_item octets (Err d) behind = refl

third_item : (n : ℕ) (octets : List ℕ) → option_and_then address_of (str_in (first (items_in None (suc n) octets)).part) ≡ option_and_then address_of (str_in (seen_of octets).part)
unfolding items_in item_at seen_of
third_item n octets = ap (λ (part : Part). option_and_then address_of (str_in part)) (first_item octets (seen_at MAX_DEPTH 0 octets) (items_in None n))

-- past the second
second_past : (octets : List ℕ) (n at to : ℕ) (r : Option ℕ) (s : Read Seen) → to ≤ length octets → Leaves octets at to r s
    → lying octets (r >>= λ third. address_at octets third to) ≡ option_and_then address_of (str_in (field_at 1 (seen_then s (items_in None (suc n)))).part)
second_past octets n at to None (Err d) room is = refl
second_past octets n at to None (Ok x) room is = absurd is
second_past octets n at to (Some third) (Err d) room is = absurd is
second_past octets n at to (Some third) (Ok x) room is =
    address_is octets third to is.2 room ∙ sym (third_item n (window octets third to)) ∙ sym (ap (λ (t : List ℕ). option_and_then address_of (str_in (first (items_in None (suc n) t)).part)) is.0)

-- past the first
first_past : (octets : List ℕ) (n at to : ℕ) (r : Option ℕ) (s : Read Seen) → to ≤ length octets → Leaves octets at to r s
    → lying octets (r >>= λ second. past_value octets MAX_DEPTH second to >>= λ third. address_at octets third to) ≡ option_and_then address_of (str_in (field_at 2 (seen_then s (items_in None (suc (suc n))))).part)
unfolding items_in item_at
first_past octets n at to None (Err d) room is = refl
first_past octets n at to None (Ok x) room is = absurd is
first_past octets n at to (Some second) (Err d) room is = absurd is
first_past octets n at to (Some second) (Ok x) room is =
    second_past octets n second to (past_value octets MAX_DEPTH second to) (seen_at MAX_DEPTH 0 (window octets second to)) room (value_leaves octets MAX_DEPTH 0 second to is.2 room)
    ∙ sym (ap (λ (t : List ℕ). option_and_then address_of (str_in (field_at 1 (seen_then (seen_at MAX_DEPTH 0 t) (items_in None (suc n)))).part)) is.0)

no_second : (s : Read Seen) → field_at 2 (seen_then s (λ octets. [])) ≡ missing
no_second (Ok x) = refl
no_second (Err d) = refl

no_third : (s : Read Seen) (r : List ℕ → Read Seen) → field_at 2 (seen_then s (λ octets. seen_then (r octets) (λ octets. []))) ≡ missing
no_third (Ok x) r = last (r x.1)
  where
    last : (s : Read Seen) → field_at 1 (seen_then s (λ octets. [])) ≡ missing
    last (Ok y) = refl
    last (Err d) = refl
no_third (Err d) r = refl

third_is : (octets : List ℕ) (n at to : ℕ) → at ≤ to → to ≤ length octets → lying octets (third_at n octets at to) ≡ address_in_properties (items_in None n (window octets at to))
unfolding third_at items_in item_at
third_is octets zero at to order room = refl
third_is octets (suc zero) at to order room = sym (ap (λ (x : Seen). option_and_then address_of (str_in x.part)) (no_second (seen_at MAX_DEPTH 0 (window octets at to))))
third_is octets (suc (suc zero)) at to order room = sym (ap (λ (x : Seen). option_and_then address_of (str_in x.part)) (no_third (seen_at MAX_DEPTH 0 (window octets at to)) (seen_at MAX_DEPTH 0)))
third_is octets (suc (suc (suc n))) at to order room =
    let enough : nat_lt (suc (suc (suc n))) 3 ≡ false = le-ltb _ _ (omega arith) in
    rw enough (first_past octets n at to (past_value octets MAX_DEPTH at to) (seen_at MAX_DEPTH 0 (window octets at to)) room (value_leaves octets MAX_DEPTH 0 at to order room))

-- ---- the items of the properties

-- where the items of a list lie, and what it says
abbrev ListSays : List ℕ → ℕ → Option (ℕ × ℕ × ℕ) → Part → Type 0
ListSays octets to None part = option_and_then address_in_properties (list_in part) ≡ None
ListSays octets to (Some c) part = (list_in part ≡ Some (items_in None c.0 (window octets c.1 c.2))) × (c.1 ≤ c.2) × (c.2 ≤ to)

plain_list : (part : Part) → is_plain part ≡ true → list_in part ≡ None
plain_list (Nested kind n octets) e = absurd cc
plain_list other e = refl

unlisted : (code : Code) (bytes : List ℕ) → ((part : Part) → IsLike code part → list_in part ≡ None) → option_and_then address_in_properties (list_in (part_behind (Some code) bytes)) ≡ None
unlisted code bytes none = ap (option_and_then address_in_properties) (unlike list_in code bytes refl none)

nested_says : (octets : List ℕ) (width : SizeWidth) (at to : ℕ) (r : Option (ℕ × ℕ × ℕ)) (s : Read (ℕ × List ℕ)) → is_read (nested_at (item_at 31 None) kinds.List width 0 (window octets at to)) ≡ true
    → counted_at width 0 (window octets at to) ≡ s → CountedCut octets at to r s → ListSays octets to r (part_read (nested_at (item_at 31 None) kinds.List width 0 (window octets at to)))
nested_says octets width at to None (Err d) read e is = absurd (known_counted 31 kinds.List width 0 (window octets at to) d read e)
nested_says octets width at to None (Ok x) read e is = absurd is
nested_says octets width at to (Some c) (Err d) read e is = absurd is
nested_says octets width at to (Some c) (Ok x) read e is =
    let known = known_items 31 kinds.List width 0 (window octets at to) x (omega arith) read e in
    rw (known.1, is.0, is.1) (refl, is.4, is.5)

no_items : (bytes : List ℕ) → option_and_then address_in_properties (list_in (part_behind (Some codes.EmptyList) bytes)) ≡ None
unfolding data_at data_by items_in
no_items bytes = refl

list_behind : (octets : List ℕ) (to : ℕ) → to ≤ length octets → (code : Code) (at : ℕ) → at ≤ to → is_read (data_at MAX_DEPTH 0 code 0 (window octets at to)) ≡ true
    → ListSays octets to (list_by (layout_of_code code) octets at to) (part_behind (Some code) (window octets at to))
unfolding list_by
list_behind octets to room (codes.Fixed scalars.Boolean) at order read = unlisted (codes.Fixed scalars.Boolean) (window octets at to) plain_list
list_behind octets to room (codes.Fixed other) at order read = unlisted (codes.Fixed other) (window octets at to) plain_list
list_behind octets to room (codes.Sized text width) at order read = unlisted (codes.Sized text width) (window octets at to) (λ part is. ap list_in is.1)
list_behind octets to room codes.EmptyList at order read = no_items (window octets at to)
list_behind octets to room (codes.Nested kinds.List width) at order read =
    let nested = data_nested MAX_DEPTH kinds.List width 0 (window octets at to) (omega arith) in
    rw nested (nested_says octets width at to (counted_in width octets at to) (counted_at width 0 (window octets at to)) (ap is_read (sym nested) ∙ read) refl (counted_cut octets width 0 at to order room))
list_behind octets to room (codes.Nested kinds.Map width) at order read = unlisted (codes.Nested kinds.Map width) (window octets at to) (λ part is. ap list_in is.2)
list_behind octets to room (codes.Array width) at order read = unlisted (codes.Array width) (window octets at to) (λ part is. ap list_in is.3)
list_behind octets to room codes.Described at order read = unlisted codes.Described (window octets at to) (λ part is. ap list_in is.2)

coded_list : (octets : List ℕ) (at to first : ℕ) (code : Option Code) → at ≤ to → to ≤ length octets → code_of first ≡ code → is_read (seen_at MAX_DEPTH 0 (first ∷ window octets at to)) ≡ true
    → ListSays octets to (option_map layout_of_code code >>= λ layout. list_by layout octets at to) (part_behind code (window octets at to))
coded_list octets at to first None order room is read = absurd (known_code first (window octets at to) read is)
coded_list octets at to first (Some code) order room is read = list_behind octets to room code at order (known_behind first code (window octets at to) read is)

list_there : (octets : List ℕ) (at to : ℕ) → at < to → to ≤ length octets → is_read (seen_at MAX_DEPTH 0 (slice_index octets at ∷ window octets (at + 1) to)) ≡ true
    → ListSays octets to (list_at octets at to) (seen_of (slice_index octets at ∷ window octets (at + 1) to)).part
unfolding list_at octet_in
list_there octets at to lt room read =
    let there : nat_lt at to ≡ true = lt-ltb _ _ lt in
    let first = slice_index octets at in
    rw (there, seen_part first (window octets (at + 1) to)) (coded_list octets (at + 1) to (slice_index octets at) (code_of (slice_index octets at)) (omega (arith, lt)) room refl read)

whole_is_read : (octets : List ℕ) → is_value octets ≡ true → is_read (seen_at MAX_DEPTH 0 octets) ≡ true
whole_is_read octets is = ap is_read (whole_read octets is).1

-- the properties are read as the list that they are
list_says : (octets : List ℕ) (at to : ℕ) → to ≤ length octets → is_value (window octets at to) ≡ true → ListSays octets to (list_at octets at to) (seen_of (window octets at to)).part
list_says octets at to room is =
    let read = whole_is_read (window octets at to) is in
    let some = known_first (window octets at to) read in
    let lt : at < to = omega (arith, some, window_len octets at to room) in
    let cons = window_cons octets at to lt room in
    rw cons (list_there octets at to lt room (ap (λ (t : List ℕ). is_read (seen_at MAX_DEPTH 0 t)) (sym cons) ∙ read))

to_by : (octets : List ℕ) (to : ℕ) (r : Option (ℕ × ℕ × ℕ)) (part : Part) → to ≤ length octets → ListSays octets to r part
    → lying octets (r >>= λ items. third_at items.0 octets items.1 items.2) ≡ option_and_then address_in_properties (list_in part)
to_by octets to None part room is = sym is
to_by octets to (Some c) part room is =
    third_is octets c.0 c.1 c.2 is.1 (omega (arith, is.2, room)) ∙ sym (ap (option_and_then address_in_properties) is.0)

-- the address in the properties is the same
pub to_is : (octets : List ℕ) (at to : ℕ) → to ≤ length octets → is_value (window octets at to) ≡ true
    → lying octets (to_in octets at to) ≡ option_and_then address_in_properties (list_in (seen_of (window octets at to)).part)
unfolding to_in
to_is octets at to room is = to_by octets to (list_at octets at to) (seen_of (window octets at to)).part room (list_says octets at to room is)
