-- How deep the fields of a performative may be nested: two levels less than the performative itself.
use Rattle.std.proofs.Common.{◌≡◌, refl, sym, ap, subst, ◌∙◌, ℕ, zero, suc, ◌≤◌, Bool, true, false, List, [], ◌∷◌, ◌++◌, length, Option, Some, None, is_some, if◌then◌else◌, inl, inr, ◌⊎◌, Result, Ok, Err, IfOk, Bor, arith}
use Rattle.std.specs.List.{AllByRecursion, flat_map}
use Rattle.std.proofs.lemmas.List.Elements.{recursion_from_All}
use Rattle.std.proofs.lemmas.List.Concat.{flat_map-cons}
use Rattle.amqp_types.specs.declared.code.Kind.{Kind}
use Rattle.amqp_types.specs.declared.code.Kind.TheVariants as kinds_of_lists
use Rattle.amqp_types.specs.declared.code.Code.{Code}
use Rattle.amqp_types.specs.declared.code.Code.TheVariants as codes
use Rattle.amqp_types.specs.Part.{Part, Nested, Described, Seen}
use Rattle.amqp_types.specs.Reading.{seen_at}
use Rattle.flow_counts.specs.declared.profile.TheConstants.{MAX_DEPTH}
use Rattle.amqp_types.specs.Items.{descriptor_of}
use Rattle.amqp_types.specs.Grammar.{IsData, IsValue, AreItems}
use Rattle.amqp_types.specs.Writing.{levels_in_list, levels_in_described}
use Rattle.amqp_types.proofs.Deeper.{value_deeper}
use Rattle.amqp_types.proofs.Values.{seen_again}
use Rattle.amqp_types.proofs.Nested.{scalar_is_no_pair, scalar_is_no_list, value_is}
use Rattle.amqp_perf.specs.declared.descriptor.PerformativeKind.{PerformativeKind}
use Rattle.amqp_perf.specs.declared.descriptor.PerformativeKind.TheVariants as kinds
use Rattle.amqp_perf.specs.Descriptors.{described_list}
use Rattle.amqp_perf.specs.FieldPlaces.{missing, field_at}
use Rattle.amqp_perf.specs.Nested.{StateFields, outcome_of, state_in}
use Rattle.amqp_perf.specs.Meaning.{Meaning, state_told, meaning_of}
use Rattle.amqp_perf.specs.declared.fault.PerfFault.{PerfFault}
use Rattle.amqp_perf.specs.declared.performative.Performative.{Performative}
use Rattle.amqp_perf.specs.View.{view}
use Rattle.amqp_perf.specs.Grammar.{IsPerformative, IsFront}
use Rattle.amqp_perf.specs.Writing.{IfThere, IsWritableState}

-- ---- one level in

pair_data : (levels : ℕ) (code : Code) (octets descriptor described : List ℕ) → IsData (suc levels) zero code octets (Described descriptor described) → (p : Part) × IsValue levels described p
unfolding IsData IsValue
pair_data levels (codes.Fixed scalar) octets descriptor described h = absurd (scalar_is_no_pair scalar octets descriptor described h)
pair_data levels (codes.Sized text width) octets descriptor described h = let e = h.3 in absurd cc
pair_data levels codes.EmptyList octets descriptor described h = let e = h.1 in absurd cc
pair_data levels (codes.Nested kind width) octets descriptor described h = let e = h.is in absurd cc
pair_data levels (codes.Array width) octets descriptor described h = absurd (elim h.elements [
  | inl k ↦ let e = k.2 in cc
  | inr k ↦ let e = k.is in cc
])
pair_data levels codes.Described octets descriptor described h =
    let e = h.is in
    let same : h.described ≡ described = cc in
    (h.described_says, subst (λ (o : List ℕ). IsValue levels o h.described_says) same h.described_is)

described_within : (levels : ℕ) (octets descriptor described : List ℕ) → IsValue (suc levels) octets (Described descriptor described) → (p : Part) × IsValue levels described p
unfolding IsValue
described_within levels [] descriptor described h = absurd h
described_within levels (b ∷ octets) descriptor described h = pair_data levels h.0 octets descriptor described h.2

list_data : (levels : ℕ) (code : Code) (octets : List ℕ) (kind : Kind) (n : ℕ) (body : List ℕ) → IsData (suc levels) zero code octets (Nested kind n body) → AreItems (IsValue levels) n body
unfolding IsData IsValue
list_data levels (codes.Fixed scalar) octets kind n body h = absurd (scalar_is_no_list scalar octets kind n body h)
list_data levels (codes.Sized text width) octets kind n body h = let e = h.3 in absurd cc
list_data levels codes.EmptyList octets kind n body h =
    let e = h.1 in
    let count : 0 ≡ n = cc in
    let none : [] ≡ body = cc in
    subst (λ (k : ℕ). AreItems (IsValue levels) k body) count (sym none)
list_data levels (codes.Nested own width) octets kind n body h =
    let e = h.is in
    let count : h.n ≡ n = cc in
    let all : h.body ≡ body = cc in
    subst (λ (k : ℕ). AreItems (IsValue levels) k body) count (subst (λ (o : List ℕ). AreItems (IsValue levels) h.n o) all h.items)
list_data levels (codes.Array width) octets kind n body h = absurd (elim h.elements [
  | inl k ↦ let e = k.2 in cc
  | inr k ↦ let e = k.is in cc
])
list_data levels codes.Described octets kind n body h = let e = h.is in absurd cc

items_within : (levels : ℕ) (octets : List ℕ) (kind : Kind) (n : ℕ) (body : List ℕ) → IsValue (suc levels) octets (Nested kind n body) → AreItems (IsValue levels) n body
unfolding IsValue
items_within levels [] kind n body h = absurd h
items_within levels (b ∷ octets) kind n body h = list_data levels h.0 octets kind n body h.2

-- ---- the same octets say one thing

same_part : (few : ℕ) (octets : List ℕ) (p q : Part) → few ≤ MAX_DEPTH → IsValue few octets p → IsValue MAX_DEPTH octets q → IsValue few octets q
same_part few octets p q le hp hq =
    let one = value_is octets p (value_deeper few MAX_DEPTH octets p le hp) in
    let two = value_is octets q hq in
    let same : p ≡ q = ap (λ (x : Seen). x.part) (sym one ∙ two) in
    subst (IsValue few octets) same hp

abbrev AreIn : ℕ → List Seen → Type 0
AreIn levels values = AllByRecursion (λ value. IsValue levels value.octets value.part) values

-- items that are known to be nested less deep
values_within : (few : ℕ) (octets : List ℕ) (values : List Seen) → few ≤ MAX_DEPTH → flat_map (λ value. value.octets) values ≡ octets → AreIn MAX_DEPTH values → AreItems (IsValue few) (length values) octets → AreIn few values
values_within few octets [] le joined each items = tt
values_within few octets (x ∷ xs) le joined each items =
    let first = items.0 in
    let behind = items.1 in
    let part = items.2 in
    let rest = flat_map (λ (value : Seen). value.octets) xs in
    let parts : x.octets ++ rest ≡ octets = sym (flat_map-cons (λ (value : Seen). value.octets) x xs) ∙ joined in
    let one : seen_at MAX_DEPTH 0 octets ≡ Ok (x, rest) = ap (seen_at MAX_DEPTH 0) (sym parts) ∙ seen_again MAX_DEPTH 0 x.octets rest x.part each.0 in
    let two : seen_at MAX_DEPTH 0 octets ≡ Ok (record { octets = first; part = part }, behind) =
    ap (seen_at MAX_DEPTH 0) items.3 ∙ seen_again MAX_DEPTH 0 first behind part (value_deeper few MAX_DEPTH first part le items.4) in
    let same : ◌≡◌ {A = Seen × List ℕ} (record { octets = first; part = part }, behind) (x, rest) = cc in
    let head : record { octets = first; part = part } ≡ x = ap (λ (y : Seen × List ℕ). y.0) same in
    let tail : behind ≡ rest = ap (λ (y : Seen × List ℕ). y.1) same in (
      subst (λ (v : Seen). IsValue few v.octets v.part) head items.4,
      values_within few rest xs le refl each.1 (subst (AreItems (IsValue few) (length xs)) tail items.5),
    )

-- ---- states

none_at : (n : ℕ) → field_at n [] ≡ missing
none_at zero = refl
none_at (suc n) = none_at n

field_within : (levels n : ℕ) (values : List Seen) → AreIn levels values → (field_at n values ≡ missing) ⊎ IsValue levels (field_at n values).octets (field_at n values).part
field_within levels n [] each = inl (none_at n)
field_within levels zero (v ∷ vs) each = inr each.0
field_within levels (suc n) (v ∷ vs) each = field_within levels n vs each.1

if_some : {A : Type 0} (b : Bool) (x y : A) → (if b then Some x else None) ≡ Some y → x ≡ y
if_some true x y e = cc
if_some false x y e = absurd cc

state_writable : (value : Seen) (state : StateFields) → IsValue levels_in_described value.octets value.part → state_in value ≡ Some state → IsWritableState state
state_writable value state is e =
    let found : StateFields = record { octets = value.octets; outcome = outcome_of (described_list value.part) } in
    let same : value.octets ≡ state.octets = ap (λ (s : StateFields). s.octets) (if_some (is_some (descriptor_of value.part)) found state e) in
    record {
      says = value.part;
      is = subst (λ (o : List ℕ). IsValue levels_in_described o value.part) same is;
      means = subst (λ (o : List ℕ). state_in (record { octets = o; part = value.part }) ≡ Some state) same e;
    }

told_by : (values : List Seen) (found : Option StateFields) → AreIn levels_in_described values → state_in (field_at 4 values) ≡ found → IfThere IsWritableState found
told_by values None each e = tt
told_by values (Some state) each e = elim (field_within levels_in_described 4 values each) [
  | inl none ↦ let f : None ≡ Some state = sym (ap state_in none) ∙ e in absurd cc
  | inr is ↦ state_writable (field_at 4 values) state is e
]

told_of : (kind : PerformativeKind) (values : List Seen) → AreIn levels_in_described values → IfThere IsWritableState (state_told (meaning_of kind values))
told_of kinds.Disposition values each = told_by values (state_in (field_at 4 values)) each refl
told_of kinds.Open values each = tt
told_of kinds.Begin values each = tt
told_of kinds.Attach values each = tt
told_of kinds.Flow values each = tt
told_of kinds.Transfer values each = tt
told_of kinds.Detach values each = tt
told_of kinds.End values each = tt
told_of kinds.Close values each = tt

fields_within : (octets : List ℕ) (meaning : Meaning) (is : IsPerformative octets meaning) → AreIn levels_in_described is.values
fields_within octets meaning is =
    let inner = described_within levels_in_list octets is.descriptor is.described is.whole in
    let list : IsValue levels_in_list is.described (Nested kinds_of_lists.List is.count is.body) =
    same_part levels_in_list is.described inner.0 (Nested kinds_of_lists.List is.count is.body) (omega arith) inner.1 is.list in
    let items : AreItems (IsValue levels_in_described) is.count is.body = items_within levels_in_described is.described kinds_of_lists.List is.count is.body list in
    values_within levels_in_described is.body is.values (omega arith) is.items.joined (recursion_from_All (λ (value : Seen). IsValue MAX_DEPTH value.octets value.part) is.values is.items.each)
    (subst (λ (k : ℕ). AreItems (IsValue levels_in_described) k is.body) (sym is.items.count) items)

-- the state that a disposition tells can be written in another
pub read_state_writable : (octets : List ℕ) (meaning : Meaning) → IsPerformative octets meaning → IfThere IsWritableState (state_told meaning)
read_state_writable octets meaning is =
    subst (λ (m : Meaning). IfThere IsWritableState (state_told m)) (sym is.means) (told_of is.kind is.values (fields_within octets meaning is))

-- ---- what a function returned

pub state_is_writable : (bytes : List ℕ) (r : Result (Performative × Bor (List ℕ)) PerfFault) → IfOk r (λ x. IsFront bytes (view x.0) x.1.now) → IfOk r (λ x. IfThere IsWritableState (state_told (view x.0)))
state_is_writable bytes (Ok x) found = read_state_writable found.front (view x.0) found.is
state_is_writable bytes (Err fault) found = tt
