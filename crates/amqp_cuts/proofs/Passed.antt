-- All values are passed over by their offsets as they are read where they lie side by side.
use Rattle.std.proofs.Common.{◌≡◌, refl, inl, inr, ℕ, zero, suc, ◌+◌, ◌-◌, ◌≤◌, ◌<◌, true, false, List, [], ◌∷◌, length, Option, Some, None, Ok, Err, option_map, arith}
use Rattle.std.specs.Prelude.{nat_lt, slice_index}
use Rattle.std.proofs.lemmas.Bool.{le-ltb, lt-ltb}
use Rattle.amqp_types.specs.declared.code.Scalar.{Scalar}
use Rattle.amqp_types.specs.declared.code.Scalar.TheVariants as scalars
use Rattle.amqp_types.specs.declared.code.Kind.TheVariants as listings
use Rattle.amqp_types.specs.declared.code.Code.{Code}
use Rattle.amqp_types.specs.declared.code.Code.TheVariants as codes
use Rattle.amqp_types.specs.Codes.{code_of}
use Rattle.amqp_types.specs.Part.{Part, Nested, Seen, Tag, Constructor, code_behind}
use Rattle.amqp_types.specs.Reading.{◌>>=◌ as ◌>>>◌, Read, with_octets, with_tag, coded_at, value_by, seen_by, data_by, element_by, tagged_at, constructor_by, data_at, constructor_at, value_at, seen_at}
use Rattle.amqp_cuts.specs.declared.layout.Layout.{Layout}
use Rattle.amqp_cuts.specs.declared.layout.ElementForm.{ElementForm}
use Rattle.amqp_cuts.specs.Layout.{layout_of_scalar, layout_of_code, layout_of}
use Rattle.amqp_cuts.specs.Offsets.{◌>>=◌, window, octet_in, past}
use Rattle.amqp_cuts.specs.Passing.{Passes, past_boolean, past_text, past_items, all_past, past_nested, past_elements, past_array, past_described, past_laid, past_value_by, past_data_by, one_tag_more, tagged_in, past_data, constructor_in, past_value}
use Rattle.amqp_cuts.specs.Passing as passing
use Rattle.amqp_cuts.proofs.Windows.{window_cons, window_empty}
use Rattle.amqp_cuts.proofs.Leaves.{Leaves, leaves_from, nat_cases, fixed_leaves, text_leaves}
use Rattle.amqp_cuts.proofs.LeavesItems.{ItemLeaves, nested_leaves, described_leaves}
use Rattle.amqp_cuts.proofs.LeavesArrays.{ConstructorCut, constructor_from, ConstructorLeaves, ElementLeaves, array_leaves}

-- ---- values

-- a reader of what is behind a code
abbrev DataLeaves : List ℕ → (Layout → Passes) → (Code → ℕ → List ℕ → Read Part) → Type 0
DataLeaves octets inner reader = (code : Code) (k at to : ℕ) → at ≤ to → to ≤ length octets → Leaves octets at to (inner (layout_of_code code) at to) (reader code k (window octets at to))

octets_leave : (octets bytes : List ℕ) (at to : ℕ) (r : Option ℕ) (s : Read Part) → Leaves octets at to r s → Leaves {A = Seen} octets at to r (with_octets bytes s)
octets_leave octets bytes at to None (Err d) is = tt
octets_leave octets bytes at to None (Ok x) is = absurd is
octets_leave octets bytes at to (Some next) (Err d) is = absurd is
octets_leave octets bytes at to (Some next) (Ok x) is = is

tag_leaves : (octets : List ℕ) (tag : Option Tag) (at to : ℕ) (r : Option ℕ) (s : Read Seen) → Leaves octets at to r s → Leaves {A = Seen} octets at to r (with_tag tag s)
tag_leaves octets tag at to None (Err d) is = tt
tag_leaves octets tag at to None (Ok x) is = absurd is
tag_leaves octets tag at to (Some next) (Err d) is = absurd is
tag_leaves octets tag at to (Some next) (Ok x) is = is

laid_leaves : (octets : List ℕ) (inner : Layout → Passes) (reader : Code → ℕ → List ℕ → Read Part) → DataLeaves octets inner reader → (code : Option Code) (k at to : ℕ) → at ≤ to → to ≤ length octets
    → Leaves octets at to (past_laid inner (option_map layout_of_code code) at to) (coded_at reader k (window octets at to) code)
unfolding past_laid coded_at
laid_leaves octets inner reader each None k at to order room = tt
laid_leaves octets inner reader each (Some code) k at to order room = each code k at to order room

value_there : (octets : List ℕ) (inner : Layout → Passes) (reader : Code → ℕ → List ℕ → Read Part) → DataLeaves octets inner reader → (levels k at to : ℕ) → at < to → to ≤ length octets
    → Leaves octets at to (past_value_by inner levels octets at to) (value_by reader levels k (slice_index octets at ∷ window octets (at + 1) to))
unfolding past_value_by value_by octet_in
value_there octets inner reader each zero k at to lt room = tt
value_there octets inner reader each (suc levels) k at to lt room =
    let there : nat_lt at to ≡ true = lt-ltb _ _ lt in
    let first = slice_index octets at in
    rw there (leaves_from octets at (at + 1) to (past_laid inner (layout_of first) (at + 1) to) (coded_at reader k (window octets (at + 1) to) (code_of first)) (omega arith)
    (laid_leaves octets inner reader each (code_of first) k (at + 1) to (omega (arith, lt)) room))

value_absent : (octets : List ℕ) (inner : Layout → Passes) (reader : Code → ℕ → List ℕ → Read Part) (levels k at to : ℕ) → to ≤ at → Leaves octets at to (past_value_by inner levels octets at to) (value_by reader levels k [])
unfolding past_value_by value_by octet_in
value_absent octets inner reader zero k at to le = tt
value_absent octets inner reader (suc levels) k at to le =
    let absent : nat_lt at to ≡ false = le-ltb _ _ le in
    rw absent tt

value_leaves_by : (octets : List ℕ) (inner : Layout → Passes) (reader : Code → ℕ → List ℕ → Read Part) → DataLeaves octets inner reader → (levels : ℕ) (end : ℕ) → end ≤ length octets
    → ItemLeaves octets end (past_value_by inner levels octets) (seen_by reader levels)
unfolding seen_by
value_leaves_by octets inner reader each levels end room k at order = elim (nat_cases at end) [
  | inl lt ↦
      octets_leave octets (window octets at end) at end (past_value_by inner levels octets at end) (value_by reader levels k (window octets at end))
      (rw (window_cons octets at end lt room) (value_there octets inner reader each levels k at end lt room))
  | inr le ↦
      octets_leave octets (window octets at end) at end (past_value_by inner levels octets at end) (value_by reader levels k (window octets at end))
      (rw (window_empty octets at end le) (value_absent octets inner reader levels k at end le))
]

-- ---- constructors

tagged_last : (octets : List ℕ) (at mid to first : ℕ) (descriptor : List ℕ) (r : Option (ElementForm × ℕ)) (s : Read Constructor) → at ≤ mid → ConstructorCut octets mid to r s
    → ConstructorCut octets at to (r >>= λ behind. Some (one_tag_more behind)) (s >>> λ behind. Ok (code_behind first descriptor behind.0, behind.1))
tagged_last octets at mid to first descriptor None (Err d) order is = tt
tagged_last octets at mid to first descriptor None (Ok x) order is = absurd is
tagged_last octets at mid to first descriptor (Some f) (Err d) order is = absurd is
tagged_last octets at mid to first descriptor (Some f) (Ok x) order is =
    (omega (arith, is.0), is.1, is.2, omega (arith, is.3, order), is.4)

tagged_by : (octets : List ℕ) (inner : ℕ → ℕ → Option (ElementForm × ℕ)) (inner_reader : ℕ → List ℕ → Read Constructor) → ConstructorLeaves octets inner inner_reader
    → (k at to first : ℕ) (r : Option ℕ) (s : Read Seen) → to ≤ length octets → Leaves octets at to r s
    → ConstructorCut octets at to (r >>= λ described. inner described to >>= λ behind. Some (one_tag_more behind))
    (s >>> λ descriptor. inner_reader k descriptor.1 >>> λ behind. Ok (code_behind first descriptor.0.octets behind.0, behind.1))
tagged_by octets inner inner_reader forms k at to first None (Err d) room is = tt
tagged_by octets inner inner_reader forms k at to first None (Ok x) room is = absurd is
tagged_by octets inner inner_reader forms k at to first (Some next) (Err d) room is = absurd is
tagged_by octets inner inner_reader forms k at to first (Some next) (Ok x) room is =
    rw is.0 (tagged_last octets at next to first x.0.octets (inner next to) (inner_reader k (window octets next to)) is.1 (forms k next to is.2 room))

fixed_form : (octets : List ℕ) (value : Passes) (reader : ℕ → List ℕ → Read Seen) (inner : ℕ → ℕ → Option (ElementForm × ℕ)) (inner_reader : ℕ → List ℕ → Read Constructor) (k at to first : ℕ) (scalar : Scalar) → at ≤ to
    → ConstructorCut octets at to (passing.constructor_by value inner (Some (layout_of_scalar scalar)) at to) (constructor_by reader inner_reader k first (window octets at to) (Some (codes.Fixed scalar)))
unfolding passing.constructor_by constructor_by
fixed_form octets value reader inner inner_reader k at to first scalars.Boolean order = (refl, refl, refl, omega arith, order)
fixed_form octets value reader inner inner_reader k at to first other order = (refl, refl, refl, omega arith, order)

constructor_cut_by : (octets : List ℕ) (value : Passes) (reader : ℕ → List ℕ → Read Seen) (inner : ℕ → ℕ → Option (ElementForm × ℕ)) (inner_reader : ℕ → List ℕ → Read Constructor)
    → ((end : ℕ) → end ≤ length octets → ItemLeaves octets end value reader) → ConstructorLeaves octets inner inner_reader → (k at to first : ℕ) (code : Option Code) → at ≤ to → to ≤ length octets
    → ConstructorCut octets at to (passing.constructor_by value inner (option_map layout_of_code code) at to) (constructor_by reader inner_reader k first (window octets at to) code)
unfolding passing.constructor_by constructor_by tagged_in tagged_at
constructor_cut_by octets value reader inner inner_reader each forms k at to first None order room = tt
constructor_cut_by octets value reader inner inner_reader each forms k at to first (Some codes.Described) order room =
    tagged_by octets inner inner_reader forms k at to first (value at to) (reader k (window octets at to)) room (each to room k at order)
constructor_cut_by octets value reader inner inner_reader each forms k at to first (Some codes.EmptyList) order room = (refl, refl, refl, omega arith, order)
constructor_cut_by octets value reader inner inner_reader each forms k at to first (Some (codes.Sized text width)) order room = (refl, refl, refl, omega arith, order)
constructor_cut_by octets value reader inner inner_reader each forms k at to first (Some (codes.Nested kind width)) order room = (refl, refl, refl, omega arith, order)
constructor_cut_by octets value reader inner inner_reader each forms k at to first (Some (codes.Array width)) order room = (refl, refl, refl, omega arith, order)
constructor_cut_by octets value reader inner inner_reader each forms k at to first (Some (codes.Fixed scalar)) order room =
    fixed_form octets value reader inner inner_reader k at to first scalar order

-- the first octet of a constructor
constructor_there : (octets : List ℕ) (levels k at to : ℕ) → ((end : ℕ) → end ≤ length octets → ItemLeaves octets end (past_value_by (past_data octets levels zero) levels octets) (seen_by (data_at levels zero) levels))
    → ConstructorLeaves octets (constructor_in octets levels) (constructor_at levels) → at < to → to ≤ length octets
    → ConstructorCut octets at to (constructor_in octets (suc levels) at to) (constructor_at (suc levels) k (slice_index octets at ∷ window octets (at + 1) to))
unfolding constructor_in constructor_at octet_in
constructor_there octets levels k at to each forms lt room =
    let there : nat_lt at to ≡ true = lt-ltb _ _ lt in
    let first = slice_index octets at in
    rw there (constructor_from octets at (at + 1) to _ _ (omega arith)
    (constructor_cut_by octets (past_value_by (past_data octets levels zero) levels octets) (seen_by (data_at levels zero) levels) (constructor_in octets levels) (constructor_at levels) each forms k (at + 1) to (slice_index octets at) (code_of (slice_index octets at)) (omega (arith, lt)) room))

constructor_absent : (octets : List ℕ) (levels k at to : ℕ) → to ≤ at → ConstructorCut octets at to (constructor_in octets levels at to) (constructor_at levels k [])
unfolding constructor_in constructor_at octet_in
constructor_absent octets zero k at to le = tt
constructor_absent octets (suc levels) k at to le =
    let absent : nat_lt at to ≡ false = le-ltb _ _ le in
    rw absent tt

constructor_deep : (octets : List ℕ) (k at to first : ℕ) (bytes : List ℕ) → ConstructorCut octets at to (constructor_in octets zero at to) (constructor_at zero k (first ∷ bytes))
unfolding constructor_in constructor_at
constructor_deep octets k at to first bytes = tt

constructor_shallow : (octets : List ℕ) (k at to : ℕ) → at ≤ to → to ≤ length octets → ConstructorCut octets at to (constructor_in octets zero at to) (constructor_at zero k (window octets at to))
constructor_shallow octets k at to order room = elim (nat_cases at to) [
  | inl lt ↦ rw (window_cons octets at to lt room) (constructor_deep octets k at to (slice_index octets at) (window octets (at + 1) to))
  | inr le ↦ rw (window_empty octets at to le) (constructor_absent octets zero k at to le)
]

constructor_further : (octets : List ℕ) (levels k at to : ℕ) → ((end : ℕ) → end ≤ length octets → ItemLeaves octets end (past_value_by (past_data octets levels zero) levels octets) (seen_by (data_at levels zero) levels))
    → ConstructorLeaves octets (constructor_in octets levels) (constructor_at levels) → at ≤ to → to ≤ length octets
    → ConstructorCut octets at to (constructor_in octets (suc levels) at to) (constructor_at (suc levels) k (window octets at to))
constructor_further octets levels k at to each forms order room = elim (nat_cases at to) [
  | inl lt ↦ rw (window_cons octets at to lt room) (constructor_there octets levels k at to each forms lt room)
  | inr le ↦ rw (window_empty octets at to le) (constructor_absent octets (suc levels) k at to le)
]

-- ---- all of them

-- a list without items
empty_leaves : (octets : List ℕ) (at to : ℕ) → at ≤ to → Leaves {A = Part} octets at to (past 0 at to) (Ok (Nested listings.List 0 [], window octets at to))
unfolding past
empty_leaves octets at to order =
    let enough : nat_lt (to - at) 0 ≡ false = le-ltb _ _ (omega arith) in
    let here : at + 0 ≡ at = omega arith in
    rw (enough, here) (refl, omega arith, order)

element_leaves_by : (octets : List ℕ) (levels : ℕ) → ((tags : ℕ) → DataLeaves octets (past_data octets levels tags) (data_at levels tags))
    → ElementLeaves octets (λ form. past_data octets levels form.tags form.layout) (element_by (data_at levels))
unfolding element_by
element_leaves_by octets levels each form c tags layout end room k at order =
    rw (tags, layout) (tag_leaves octets c.tag at end _ _ (octets_leave octets (window octets at end) at end _ _ (each c.tags c.code k at end order room)))

mutual
  unfolding past_data past_data_by data_at data_by

  pub data_leaves : (octets : List ℕ) (levels tags : ℕ) → DataLeaves octets (past_data octets levels tags) (data_at levels tags)
  data_leaves octets zero tags code k at to order room = tt
  data_leaves octets (suc levels) zero (codes.Fixed scalar) k at to order room = fixed_leaves octets _ _ _ scalar k at to order room
  data_leaves octets (suc levels) zero (codes.Sized text width) k at to order room = text_leaves octets text width k at to order room
  data_leaves octets (suc levels) zero codes.EmptyList k at to order room = empty_leaves octets at to order
  data_leaves octets (suc levels) zero (codes.Nested kind width) k at to order room =
      nested_leaves octets (past_value_by (past_data octets levels zero) levels octets) (seen_by (data_at levels zero) levels)
      (value_leaves_by octets (past_data octets levels zero) (data_at levels zero) (data_leaves octets levels zero) levels) kind width k at to order room
  data_leaves octets (suc levels) zero (codes.Array width) k at to order room =
      array_leaves octets (constructor_in octets levels) (constructor_at levels) (λ form. past_data octets levels form.tags form.layout) (element_by (data_at levels))
      (constructor_leaves octets levels) (element_leaves_by octets levels (data_leaves octets levels)) width k at to order room
  data_leaves octets (suc levels) zero codes.Described k at to order room =
      described_leaves octets (past_value_by (past_data octets levels zero) levels octets) (seen_by (data_at levels zero) levels) k at to
      (value_leaves_by octets (past_data octets levels zero) (data_at levels zero) (data_leaves octets levels zero) levels to room) order
  data_leaves octets (suc levels) (suc tags) code k at to order room = data_leaves octets levels tags code k at to order room

  pub constructor_leaves : (octets : List ℕ) (levels : ℕ) → ConstructorLeaves octets (constructor_in octets levels) (constructor_at levels)
  constructor_leaves octets zero k at to order room = constructor_shallow octets k at to order room
  constructor_leaves octets (suc levels) k at to order room =
      constructor_further octets levels k at to
      (value_leaves_by octets (past_data octets levels zero) (data_at levels zero) (data_leaves octets levels zero) levels) (constructor_leaves octets levels) order room

-- a value is passed over where it is read, wherever it lies
pub value_leaves : (octets : List ℕ) (levels k at to : ℕ) → at ≤ to → to ≤ length octets → Leaves octets at to (past_value octets levels at to) (seen_at levels k (window octets at to))
unfolding past_value seen_at value_at seen_by
value_leaves octets levels k at to order room =
    value_leaves_by octets (past_data octets levels zero) (data_at levels zero) (data_leaves octets levels zero) levels to room k at order
