-- What is read is a performative, and what is one is read.
use Rattle.std.proofs.Common.{◌≡◌, refl, sym, ap, subst, ◌∙◌, ℕ, ◌≤◌, Bool, true, false, List, [], ◌∷◌, ◌++◌, length, Option, Some, None, Result, Ok, Err, Bor}
use Rattle.std.specs.Prelude.{nat_lt, IfOk}
use Rattle.std.specs.List.{flat_map, AllByRecursion}
use Rattle.std.proofs.lemmas.List.Elements.{recursion_from_All}
use Rattle.std.proofs.lemmas.List.Concat.{flat_map-cons}
use Rattle.std.proofs.lemmas.Bool.{ltb-false, le-ltb}
use Rattle.std.specs.Option.{option_zip}
use Rattle.amqp_types.specs.declared.code.Kind.TheVariants as kinds
use Rattle.amqp_types.specs.Part.{Part, Seen, Nested, Described, Tagged}
use Rattle.amqp_types.specs.Reading.{Read, seen_at, item_at}
use Rattle.flow_counts.specs.declared.profile.TheConstants.{MAX_DEPTH}
use Rattle.amqp_types.specs.Items.{items_in, seen_in, seen_of}
use Rattle.amqp_types.specs.Grammar.{IsValue, AreValuesOf}
use Rattle.amqp_types.specs.Typed.{list_in}
use Rattle.amqp_types.proofs.Values.{seen_found, seen_again}
use Rattle.amqp_types.proofs.Nested.{not_tagged, pair_holds, list_holds, value_is}
use Rattle.amqp_perf.specs.declared.fault.PerfFault.{PerfFault}
use Rattle.amqp_perf.specs.declared.fault.PerfFault.TheVariants.{TooManyFields}
use Rattle.amqp_perf.specs.declared.descriptor.PerformativeKind.{PerformativeKind}
use Rattle.amqp_perf.specs.declared.descriptor.Descriptor.{Descriptor}
use Rattle.amqp_perf.specs.declared.descriptor.Descriptor.TheVariants.{Performative}
use Rattle.amqp_perf.specs.Descriptors.{descriptor_named}
use Rattle.amqp_perf.specs.Tables.{table_of}
use Rattle.amqp_perf.specs.Fields.{first_fault}
use Rattle.amqp_perf.specs.Meaning.{Meaning, meaning_of}
use Rattle.flow_counts.specs.Words.{Gives}
use Rattle.amqp_perf.specs.Reading.{checked, said_of, said, said_by, before, performative_at}
use Rattle.amqp_perf.specs.declared.performative.Performative as performatives
use Rattle.amqp_perf.specs.View.{view}
use Rattle.amqp_perf.specs.Grammar.{IsPerformative, IsFront, AreFields}
use Rattle.amqp_perf.proofs.Fits.{are_fields, no_faults, not_too_many}

-- ---- the fields

checked_by : (kind : PerformativeKind) (fields : List Seen) (meaning : Meaning) (many : Bool) (fault : Option PerfFault) → nat_lt (length (table_of kind)) (length fields) ≡ many
    → first_fault 1 (table_of kind) fields ≡ fault → checked kind fields ≡ Ok meaning → AreFields (table_of kind) fields × (meaning ≡ meaning_of kind fields)
checked_by kind fields meaning true fault is none e =
    let h : checked kind fields ≡ Err TooManyFields = rw is refl in absurd cc
checked_by kind fields meaning false (Some f) is none e =
    let h : checked kind fields ≡ Err f = rw (is, none) refl in absurd cc
checked_by kind fields meaning false None is none e =
    let few : length fields ≤ length (table_of kind) = ltb-false _ _ is in
    let h : checked kind fields ≡ Ok (meaning_of kind fields) = rw (is, none) refl in
    let same : ◌≡◌ {A = Result Meaning PerfFault} (Ok (meaning_of kind fields)) (Ok meaning) = sym h ∙ e in
    (are_fields 1 (table_of kind) fields few none, cc)

-- fields that were read fit their table
checked_found : (kind : PerformativeKind) (fields : List Seen) (meaning : Meaning) → checked kind fields ≡ Ok meaning → AreFields (table_of kind) fields × (meaning ≡ meaning_of kind fields)
checked_found kind fields meaning e = checked_by kind fields meaning (nat_lt (length (table_of kind)) (length fields)) (first_fault 1 (table_of kind) fields) refl refl e

checked_again : (kind : PerformativeKind) (fields : List Seen) → AreFields (table_of kind) fields → checked kind fields ≡ Ok (meaning_of kind fields)
checked_again kind fields fit =
    let few : nat_lt (length (table_of kind)) (length fields) ≡ false = le-ltb _ _ (not_too_many (table_of kind) fields fit) in
    rw (few, no_faults 1 (table_of kind) fields fit) refl

-- ---- the items of a list

values_are_by : (octets : List ℕ) (values : List Seen) → flat_map (λ value. value.octets) values ≡ octets → AllByRecursion (λ value. IsValue MAX_DEPTH value.octets value.part) values
    → seen_in (length values) octets ≡ values
unfolding items_in item_at
values_are_by octets [] joined each = refl
values_are_by octets (x ∷ xs) joined each =
    let rest = flat_map (λ (value : Seen). value.octets) xs in
    let parts : x.octets ++ rest ≡ octets = sym (flat_map-cons (λ (value : Seen). value.octets) x xs) ∙ joined in
    let read : seen_at MAX_DEPTH 0 octets ≡ Ok (x, rest) = ap (seen_at MAX_DEPTH 0) (sym parts) ∙ seen_again MAX_DEPTH 0 x.octets rest x.part each.0 in
    rw read (ap (λ (vs : List Seen). x ∷ vs) (values_are_by rest xs refl each.1))

-- octets hold just these values
pub values_are : (n : ℕ) (octets : List ℕ) (values : List Seen) → AreValuesOf n octets values → seen_in n octets ≡ values
values_are n octets values are =
    subst (λ k. seen_in k octets ≡ values) are.count (values_are_by octets values are.joined (recursion_from_All (λ value. IsValue MAX_DEPTH value.octets value.part) values are.each))

-- ---- a value

-- a described list, where its parts are known
parts_found : (octets descriptor described : List ℕ) (d v : Part) (meaning : Meaning) (names : Option Descriptor) → IsValue MAX_DEPTH octets (Described descriptor described)
    → IsValue MAX_DEPTH descriptor d → IsValue MAX_DEPTH described v → descriptor_named d ≡ names → said_of (option_zip names (list_in v)) ≡ Ok meaning
    → IsPerformative octets meaning
parts_found octets descriptor described d (Nested kinds.List count body) meaning (Some (Performative kind)) whole says list names e =
    let fit = checked_found kind (seen_in count body) meaning e in
    record {
      descriptor = descriptor;
      described = described;
      whole = whole;
      says = d;
      descriptor_is = says;
      kind = kind;
      names = names;
      count = count;
      body = body;
      list = list;
      values = seen_in count body;
      items = list_holds described kinds.List count body list;
      fit = fit.0;
      means = fit.1;
    }
parts_found octets descriptor described d _ meaning None whole says list names e = absurd cc
parts_found octets descriptor described d _ meaning (Some _) whole says list names e = absurd cc

said_found : (octets : List ℕ) (part : Part) (meaning : Meaning) → IsValue MAX_DEPTH octets part → said part ≡ Ok meaning → IsPerformative octets meaning
said_found octets (Described descriptor described) meaning whole e =
    let holds = pair_holds octets descriptor described whole in
    let d = ap (λ (x : Seen). x.part) (value_is descriptor holds.0.says holds.0.is) in
    let v = ap (λ (x : Seen). x.part) (value_is described holds.1.says holds.1.is) in
    let spoken : said_of (option_zip (descriptor_named holds.0.says) (list_in holds.1.says)) ≡ Ok meaning =
    ap (λ (p : Part). said_of (option_zip (descriptor_named p) (list_in holds.1.says))) (sym d)
    ∙ ap (λ (p : Part). said_of (option_zip (descriptor_named (seen_of descriptor).part) (list_in p))) (sym v) ∙ e in
    parts_found octets descriptor described holds.0.says holds.1.says meaning (descriptor_named holds.0.says) whole holds.0.is holds.1.is refl spoken
said_found octets (Tagged descriptor constructor own) meaning whole e = absurd (not_tagged octets descriptor constructor own whole)
said_found octets _ meaning whole e = absurd cc

said_again : (octets : List ℕ) (meaning : Meaning) (is : IsPerformative octets meaning) → said (Described is.descriptor is.described) ≡ Ok meaning
said_again octets meaning is =
    let d : (seen_of is.descriptor).part ≡ is.says = ap (λ (x : Seen). x.part) (value_is is.descriptor is.says is.descriptor_is) in
    let v : (seen_of is.described).part ≡ Nested kinds.List is.count is.body = ap (λ (x : Seen). x.part) (value_is is.described (Nested kinds.List is.count is.body) is.list) in
    ap (λ (p : Part). said_of (option_zip (descriptor_named p) (list_in (seen_of is.described).part))) d
    ∙ ap (λ (p : Part). said_of (option_zip (descriptor_named is.says) (list_in p))) v
    ∙ rw (is.names, values_are is.count is.body is.values is.items) (checked_again is.kind is.values is.fit ∙ ap Ok (sym is.means))

-- ---- octets

found_by : (bytes : List ℕ) (read : Read Seen) (y : Meaning × List ℕ) → seen_at MAX_DEPTH 0 bytes ≡ read → said_by read ≡ Ok y → IsFront bytes y.0 y.1
found_by bytes (Ok x) y is e = from (said x.0.part) refl e
  where
    from : (r : Result Meaning PerfFault) → said x.0.part ≡ r → before x.1 r ≡ Ok y → IsFront bytes y.0 y.1
    from (Ok meaning) said_is same =
        let front = seen_found MAX_DEPTH 0 bytes x is in
        let pair : ◌≡◌ {A = Meaning × List ℕ} (meaning, x.1) y = cc in
        subst (λ z. IsFront bytes z.0 z.1) pair (record { front = x.0.octets; parts = front.parts; is = said_found x.0.octets x.0.part meaning front.is said_is })
    from (Err fault) said_is same = absurd cc
found_by bytes (Err fault) y is e = absurd cc

-- what is read is a performative at the front
pub performative_found : (bytes : List ℕ) (y : Meaning × List ℕ) → performative_at bytes ≡ Ok y → IsFront bytes y.0 y.1
unfolding performative_at
performative_found bytes y e = found_by bytes (seen_at MAX_DEPTH 0 bytes) y refl e

-- a performative at the front is read
pub performative_again : (bytes : List ℕ) (meaning : Meaning) (rest : List ℕ) → IsFront bytes meaning rest → performative_at bytes ≡ Ok (meaning, rest)
unfolding performative_at
performative_again bytes meaning rest front =
    let part = Described front.is.descriptor front.is.described in
    let read : seen_at MAX_DEPTH 0 bytes ≡ Ok (record { octets = front.front; part = part }, rest) = ap (seen_at MAX_DEPTH 0) front.parts ∙ seen_again MAX_DEPTH 0 front.front rest part front.is.whole in
    rw (read, said_again front.front meaning front.is) refl

-- ---- what a function returned

pub is_found : (bytes : List ℕ) (r : Result (performatives.Performative × Bor (List ℕ)) PerfFault) → Gives {Y = Meaning × List ℕ} (λ x. (view x.0, x.1.now)) r (performative_at bytes)
    → IfOk r (λ x. IsFront bytes (view x.0) x.1.now)
is_found bytes (Ok x) given = performative_found bytes (view x.0, x.1.now) given
is_found bytes (Err e) given = tt
