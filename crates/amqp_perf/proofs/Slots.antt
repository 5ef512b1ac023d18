-- The fields that are written: without the absent ones at the end they say the same.
use Rattle.std.proofs.Common.{◌≡◌, refl, sym, ap, ◌∙◌, ℕ, zero, suc, ◌+◌, ◌<◌, ◌≤◌, ◌^◌, true, false, List, [], ◌∷◌, ◌++◌, map, length, take, get_or, Option, Some, None, is_some, inl, inr, subst, arith}
use Rattle.std.specs.List.{AllByRecursion}
use Rattle.std.proofs.lemmas.List.{length-append, append-nil, append_assoc, length-map, take_all, take-append-le, take_more, length-take-le, map-append}
use Rattle.std.proofs.lemmas.List.Concat.{flat_map-cons}
use Rattle.amqp_types.specs.declared.code.Code.TheVariants as codes
use Rattle.amqp_types.specs.declared.code.Scalar.TheVariants as scalars
use Rattle.amqp_types.specs.Codes.{scalar_of_code, code_of}
use Rattle.amqp_types.specs.Part.{Part, Ulong, Described, Seen}
use Rattle.amqp_types.specs.Typed.{says_null}
use Rattle.amqp_types.specs.Grammar.{IsValue, IsData, AreItems}
use Rattle.amqp_types.specs.Writing.{null_octets, list_octets, descriptor_octets}
use Rattle.amqp_types.proofs.Written.{null_written, described_nested}
use Rattle.amqp_perf.specs.declared.table.Field.{Field}
use Rattle.amqp_perf.specs.Tables.{accepts}
use Rattle.amqp_perf.specs.FieldPlaces.{missing, first, others, field_at}
use Rattle.amqp_perf.specs.Grammar.{IsField, AreFields}
use Rattle.amqp_perf.specs.declared.slot.Slot.{Slot}
use Rattle.amqp_perf.specs.declared.slot.Slot.TheVariants.{Absent}
use Rattle.amqp_perf.specs.SlotViews.{slot_view, slots_view}
use Rattle.amqp_perf.specs.Slots.{null_value, or_null, used_before, used, values_of, octets_of, fields_octets, AreShort, CanStand, AllCanStand}

-- ---- one field after the other

before_some : (fs : List (Option Seen)) (value : Seen) (f : Option Seen) → used_before (fs ++ Some value ∷ []) f ≡ f ∷ (fs ++ Some value ∷ [])
before_some [] value f = refl
before_some (g ∷ gs) value f = refl

-- fields up to one that is there are all used
pub used_some : (fs : List (Option Seen)) (value : Seen) → used (fs ++ Some value ∷ []) ≡ fs ++ Some value ∷ []
used_some [] value = refl
used_some (f ∷ fs) value = ap (λ us. used_before us f) (used_some fs value) ∙ before_some fs value f

-- one that is absent changes nothing
pub used_none : (fs : List (Option Seen)) → used (fs ++ None ∷ []) ≡ used fs
used_none [] = refl
used_none (f ∷ fs) = ap (λ us. used_before us f) (used_none fs)

-- ---- what is read in a place

others_by : (us : List (Option Seen)) (f : Option Seen) → others (map or_null (used_before us f)) ≡ map or_null us
others_by (u ∷ us) f = refl
others_by [] (Some value) = refl
others_by [] None = refl

first_by : {X : Type 0} (of : Seen → X) → of missing ≡ of null_value → (us : List (Option Seen)) (f : Option Seen) → of (first (map or_null (used_before us f))) ≡ of (or_null f)
first_by of same (u ∷ us) f = refl
first_by of same [] (Some value) = refl
first_by of same [] None = same

-- what takes a missing field as null reads the same in each place
pub same_at : {X : Type 0} (of : Seen → X) → of missing ≡ of null_value → (n : ℕ) (fs : List (Option Seen)) → of (field_at n (values_of fs)) ≡ of (field_at n (map or_null fs))
same_at of same n [] = refl
same_at of same zero (f ∷ fs) = first_by of same (used fs) f
same_at of same (suc n) (f ∷ fs) = ap (λ ps. of (field_at n ps)) (others_by (used fs) f) ∙ same_at of same n fs

-- ---- the table

-- a field that is there has its type
abbrev pub Suits : Field → Option Seen → Type 0
Suits field None = field.is_mandatory ≡ false
Suits field (Some value) = (says_null value.part ≡ false) × (accepts field.field_type value ≡ true)

abbrev pub AllSuit : List Field → List (Option Seen) → Type 0
AllSuit [] [] = Unit {0}
AllSuit [] (s ∷ ss) = ⊥
AllSuit (f ∷ fs) [] = (f.is_mandatory ≡ false) × AllSuit fs []
AllSuit (f ∷ fs) (s ∷ ss) = Suits f s × AllSuit fs ss

is_field : (f : Field) (s : Option Seen) → Suits f s → IsField f (or_null s)
is_field f None h = inl (refl, h)
is_field f (Some value) h = inr h

fit_by : (f : Field) (fs : List Field) (us : List (Option Seen)) (s : Option Seen) → Suits f s → AreFields fs (map or_null us) → AreFields (f ∷ fs) (map or_null (used_before us s))
fit_by f fs (u ∷ us) s h others = (is_field f s h, others)
fit_by f fs [] (Some value) h others = (inr h, others)
fit_by f fs [] None h others = (h, others)

-- what is written fits the table
pub fit_values : (fs : List Field) (ss : List (Option Seen)) → AllSuit fs ss → AreFields fs (values_of ss)
fit_values [] [] h = tt
fit_values [] (s ∷ ss) h = absurd h
fit_values (f ∷ fs) [] h = (h.0, fit_values fs [] h.1)
fit_values (f ∷ fs) (s ∷ ss) h = fit_by f fs (used ss) s h.0 (fit_values fs ss h.1)

-- ---- the octets

-- values that may be nested so deep
abbrev pub AreAt : ℕ → List Seen → Type 0
AreAt levels values = AllByRecursion (λ value. IsValue levels value.octets value.part) values

stands : (levels : ℕ) (s : Option Seen) → CanStand (suc levels) s → IsValue (suc levels) (or_null s).octets (or_null s).part
stands levels None h = null_written.is levels
stands levels (Some value) h = h.0

stand_by : (levels : ℕ) (us : List (Option Seen)) (s : Option Seen) → CanStand (suc levels) s → AreAt (suc levels) (map or_null us) → AreAt (suc levels) (map or_null (used_before us s))
stand_by levels (u ∷ us) s h others = (stands levels s h, others)
stand_by levels [] (Some value) h others = (h.0, others)
stand_by levels [] None h others = tt

pub stand_values : (levels : ℕ) (ss : List (Option Seen)) → AllCanStand (suc levels) ss → AreAt (suc levels) (values_of ss)
stand_values levels [] h = tt
stand_values levels (s ∷ ss) h = stand_by levels (used ss) s h.0 (stand_values levels ss h.1)

octets_cons : (v : Seen) (vs : List Seen) → octets_of (v ∷ vs) ≡ v.octets ++ octets_of vs
octets_cons v vs = flat_map-cons (λ (value : Seen). value.octets) v vs

pub are_items : (levels : ℕ) (vs : List Seen) → AreAt levels vs → AreItems (IsValue levels) (length vs) (octets_of vs)
are_items levels [] h = refl
are_items levels (v ∷ vs) h = (v.octets, octets_of vs, v.part, octets_cons v vs, h.0, are_items levels vs h.1)

value_long : (levels : ℕ) (octets : List ℕ) (part : Part) → IsValue levels octets part → 1 ≤ length octets
unfolding IsValue
value_long levels [] part is = absurd is
value_long levels (b ∷ octets) part is = omega arith

-- each value has an octet
pub values_long : (levels : ℕ) (vs : List Seen) → AreAt levels vs → length vs ≤ length (octets_of vs)
values_long levels [] h = omega arith
values_long levels (v ∷ vs) h =
    omega (arith, value_long levels v.octets v.part h.0, values_long levels vs h.1, ap length (octets_cons v vs), length-append v.octets (octets_of vs))

-- what a described list of such fields says
abbrev pub says_fields : ℕ → List (Option Seen) → Part
says_fields code ss = Described (descriptor_octets code) (list_octets (length (values_of ss)) (octets_of (values_of ss)))

-- a described list of such fields is a value, two levels above them
pub fields_nested : (levels code : ℕ) (ss : List (Option Seen)) → AllCanStand (suc levels) ss → AreShort ss → IsValue (suc (suc (suc levels))) (fields_octets code ss) (says_fields code ss)
fields_nested levels code ss can few =
    let at = stand_values levels ss can in
    let fits : length (values_of ss) < 2 ^ 32 = omega (arith, values_long (suc levels) (values_of ss) at) in
    described_nested code (length (values_of ss)) (octets_of (values_of ss)) few fits (suc levels) (are_items (suc levels) (values_of ss) at)

pub descriptor_is : (levels code : ℕ) → IsValue (suc levels) (descriptor_octets code) (Ulong code)
unfolding IsValue IsData code_of scalar_of_code
descriptor_is levels code = (codes.Fixed scalars.UlongOctet, refl, (code, record { len = refl; says = omega arith }, refl))

-- ---- a loop over the fields

-- these fields are written; so many of them are used, and these have so many octets
pub record FieldsSoFar (ss : List (Option Seen)) (fields : List ℕ) (count len : ℕ) : Type 0 where
  pub all : fields ≡ octets_of (map or_null ss)
  pub number : count ≡ length (values_of ss)
  pub few : count ≤ length ss
  pub kept : take len fields ≡ octets_of (values_of ss)
  pub within : len ≤ length fields

octets_behind : (ss : List (Option Seen)) (s : Option Seen) → octets_of (map or_null (ss ++ s ∷ [])) ≡ octets_of (map or_null ss) ++ (or_null s).octets
octets_behind [] s = octets_cons (or_null s) [] ∙ append-nil (or_null s).octets
octets_behind (x ∷ xs) s =
    octets_cons (or_null x) (map or_null (xs ++ s ∷ []))
    ∙ ap (λ (t : List ℕ). (or_null x).octets ++ t) (octets_behind xs s)
    ∙ sym (append_assoc (or_null x).octets (octets_of (map or_null xs)) (or_null s).octets)
    ∙ ap (λ (t : List ℕ). t ++ (or_null s).octets) (sym (octets_cons (or_null x) (map or_null xs)))

one_longer : (ss : List (Option Seen)) (s : Option Seen) → length (ss ++ s ∷ []) ≡ length ss + 1
one_longer ss s = length-append ss (s ∷ [])

-- a field that is there is used, and so are all before it
pub goes_on_there : (ss : List (Option Seen)) (fields new : List ℕ) (count len : ℕ) (value : Seen) → FieldsSoFar ss fields count len
    → new ≡ fields ++ value.octets → FieldsSoFar (ss ++ Some value ∷ []) new (length ss + 1) (length new)
goes_on_there ss fields new count len value so_far more =
    let all : new ≡ octets_of (map or_null (ss ++ Some value ∷ [])) = more ∙ ap (λ (t : List ℕ). t ++ value.octets) so_far.all ∙ sym (octets_behind ss (Some value)) in
    let used_all : values_of (ss ++ Some value ∷ []) ≡ map or_null (ss ++ Some value ∷ []) = ap (map or_null) (used_some ss value) in
    record {
      all = all;
      number = sym (ap length used_all ∙ length-map (ss ++ Some value ∷ []) or_null ∙ one_longer ss (Some value));
      few = omega (arith, one_longer ss (Some value));
      kept = take_all (length new) new (omega arith) ∙ all ∙ ap octets_of (sym used_all);
      within = omega arith;
    }

-- one that is absent is not
pub goes_on_absent : (ss : List (Option Seen)) (fields new : List ℕ) (count len : ℕ) → FieldsSoFar ss fields count len
    → new ≡ fields ++ null_octets → FieldsSoFar (ss ++ None ∷ []) new count len
goes_on_absent ss fields new count len so_far more =
    let used_same : values_of (ss ++ None ∷ []) ≡ values_of ss = ap (map or_null) (used_none ss) in
    let longer : length new ≡ length fields + length null_octets = ap length more ∙ length-append fields null_octets in
    record {
      all = more ∙ ap (λ (t : List ℕ). t ++ null_octets) so_far.all ∙ sym (octets_behind ss None);
      number = so_far.number ∙ sym (ap length used_same);
      few = omega (arith, so_far.few, one_longer ss None);
      kept = ap (take len) more ∙ take-append-le len fields null_octets so_far.within ∙ so_far.kept ∙ ap octets_of (sym used_same);
      within = omega (arith, so_far.within, longer);
    }

-- the fields up to the next place
pub next_place : (slots : List Slot) (i : ℕ) → i < length slots → slots_view (take (i + 1) slots) ≡ slots_view (take i slots) ++ slot_view (get_or slots i Absent) ∷ []
next_place slots i lt = ap slots_view (take_more slots i Absent lt) ∙ map-append slot_view (take i slots) (get_or slots i Absent ∷ [])

-- each field can stand
pub stands_at : (levels : ℕ) (slots : List Slot) (i : ℕ) → i < length slots → AllCanStand levels (slots_view slots) → CanStand levels (slot_view (get_or slots i Absent))
stands_at levels [] i lt can = absurd (omega (arith, lt))
stands_at levels (s ∷ ss) zero lt can = can.0
stands_at levels (s ∷ ss) (suc i) lt can = stands_at levels ss i (omega (arith, lt)) can.1

pub places_before : (slots : List Slot) (i : ℕ) → i ≤ length slots → length (slots_view (take i slots)) ≡ i
places_before slots i le = length-map (take i slots) slot_view ∙ length-take-le i slots le

some_of : (s : Option Seen) → is_some s ≡ true → (value : Seen) × (s ≡ Some value)
some_of (Some value) is = (value, refl)
some_of None is = absurd cc

none_of : (s : Option Seen) → is_some s ≡ false → s ≡ None
none_of (Some value) is = absurd cc
none_of None is = refl

-- the loop has gone on to the next place
pub absent : (slots : List Slot) (i : ℕ) (fields new : List ℕ) (count len : ℕ) → i < length slots → is_some (slot_view (get_or slots i Absent)) ≡ false
    → FieldsSoFar (slots_view (take i slots)) fields count len → new ≡ fields ++ (or_null (slot_view (get_or slots i Absent))).octets
    → FieldsSoFar (slots_view (take (i + 1) slots)) new count len
absent slots i fields new count len lt is so_far more =
    let ss = slots_view (take i slots) in
    let none = none_of (slot_view (get_or slots i Absent)) is in
    let place : slots_view (take (i + 1) slots) ≡ ss ++ None ∷ [] = next_place slots i lt ∙ ap (λ (s : Option Seen). ss ++ s ∷ []) none in
    let null : new ≡ fields ++ null_octets = more ∙ ap (λ (s : Option Seen). fields ++ (or_null s).octets) none in
    subst (λ (all : List (Option Seen)). FieldsSoFar all new count len) (sym place) (goes_on_absent ss fields new count len so_far null)

pub there : (slots : List Slot) (i : ℕ) (fields new : List ℕ) (count len : ℕ) → i < length slots → is_some (slot_view (get_or slots i Absent)) ≡ true
    → FieldsSoFar (slots_view (take i slots)) fields count len → new ≡ fields ++ (or_null (slot_view (get_or slots i Absent))).octets
    → (next_len : ℕ) → next_len ≡ length new → FieldsSoFar (slots_view (take (i + 1) slots)) new (i + 1) next_len
there slots i fields new count len lt is so_far more next_len end =
    let ss = slots_view (take i slots) in
    let some = some_of (slot_view (get_or slots i Absent)) is in
    let value = some.0 in
    let place : slots_view (take (i + 1) slots) ≡ ss ++ Some value ∷ [] = next_place slots i lt ∙ ap (λ (s : Option Seen). ss ++ s ∷ []) some.1 in
    let added : new ≡ fields ++ value.octets = more ∙ ap (λ (s : Option Seen). fields ++ (or_null s).octets) some.1 in
    let number : length ss + 1 ≡ i + 1 = ap (λ (n : ℕ). n + 1) (places_before slots i (omega (arith, lt))) in
    subst (λ (n : ℕ). FieldsSoFar (slots_view (take (i + 1) slots)) new (i + 1) n) (sym end)
    (subst (λ (n : ℕ). FieldsSoFar (slots_view (take (i + 1) slots)) new n (length new)) number
    (subst (λ (all : List (Option Seen)). FieldsSoFar all new (length ss + 1) (length new)) (sym place) (goes_on_there ss fields new count len value so_far added)))

-- at the end the fields that are used stand
pub used_items : (levels : ℕ) (slots : List Slot) (i : ℕ) (fields : List ℕ) (count len : ℕ) → length slots ≤ i → AllCanStand (suc levels) (slots_view slots)
    → FieldsSoFar (slots_view (take i slots)) fields count len → AreItems (IsValue (suc levels)) count (take len fields)
used_items levels slots i fields count len le can so_far =
    let all : slots_view (take i slots) ≡ slots_view slots = ap slots_view (take_all i slots le) in
    let done = subst (λ (ss : List (Option Seen)). FieldsSoFar ss fields count len) all so_far in
    let values = values_of (slots_view slots) in
    let items : AreItems (IsValue (suc levels)) (length values) (octets_of values) = are_items (suc levels) values (stand_values levels (slots_view slots) can) in
    subst (λ (n : ℕ). AreItems (IsValue (suc levels)) n (take len fields)) (sym done.number) (subst (λ (o : List ℕ). AreItems (IsValue (suc levels)) (length values) o) (sym done.kept) items)

pub used_count : (slots : List Slot) (i : ℕ) (fields : List ℕ) (count len : ℕ) → length slots < 256 → i ≤ length slots
    → FieldsSoFar (slots_view (take i slots)) fields count len → count < 2 ^ 32
used_count slots i fields count len few le so_far = omega (arith, so_far.few, places_before slots i le)
