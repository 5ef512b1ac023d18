-- What is read of a SASL frame stands there, and what stands there is read.
use Rattle.std.proofs.Common.{◌≡◌, refl, sym, ap, ◌∙◌, ℕ, ◌≤◌, Bool, true, false, List, length, Option, Some, None, Result, Ok, Err}
use Rattle.std.specs.Prelude.{nat_lt, IfOk}
use Rattle.std.proofs.lemmas.Bool.{ltb-false, le-ltb}
use Rattle.std.specs.Option.{option_zip}
use Rattle.amqp_types.specs.declared.code.Kind.TheVariants as kinds
use Rattle.amqp_types.specs.Part.{Part, Seen, Nested, Described, Tagged}
use Rattle.amqp_types.specs.Reading.{Read, seen_at}
use Rattle.flow_counts.specs.declared.profile.TheConstants.{MAX_DEPTH}
use Rattle.amqp_types.specs.Items.{seen_in, seen_of}
use Rattle.amqp_types.specs.Grammar.{IsValue}
use Rattle.amqp_types.specs.Typed.{list_in}
use Rattle.amqp_types.proofs.Values.{seen_found, seen_again}
use Rattle.amqp_types.proofs.Nested.{not_tagged, pair_holds, list_holds, value_is}
use Rattle.amqp_perf.specs.declared.fault.PerfFault.{PerfFault}
use Rattle.amqp_perf.specs.declared.fault.PerfFault.TheVariants.{TooManyFields}
use Rattle.amqp_perf.specs.Fields.{first_fault}
use Rattle.flow_counts.specs.Words.{Gives}
use Rattle.amqp_perf.specs.Grammar.{AreFields}
use Rattle.amqp_perf.proofs.Fits.{are_fields, no_faults, not_too_many}
use Rattle.amqp_perf.proofs.Spoken.{values_are}
use Rattle.amqp_frames.specs.declared.sasl.SaslKind.{SaslKind}
use Rattle.amqp_frames.specs.declared.sasl.SaslFrame.{SaslFrame}
use Rattle.amqp_frames.specs.Sasl.{Saying, kind_named, sasl_table, saying_of}
use Rattle.amqp_frames.specs.SaslReading.{checked, said_of, said, said_by, sasl_at}
use Rattle.amqp_frames.specs.SaslGrammar.{IsSasl, IsSaslFront}
use Rattle.amqp_frames.specs.SaslView.{sasl_view}

-- ---- the fields

checked_by : (kind : SaslKind) (fields : List Seen) (saying : Saying) (many : Bool) (fault : Option PerfFault) → nat_lt (length (sasl_table kind)) (length fields) ≡ many
    → first_fault 1 (sasl_table kind) fields ≡ fault → checked kind fields ≡ Ok saying → AreFields (sasl_table kind) fields × (saying ≡ saying_of kind fields)
checked_by kind fields saying true fault is none e =
    let h : checked kind fields ≡ Err TooManyFields = rw is refl in absurd cc
checked_by kind fields saying false (Some f) is none e =
    let h : checked kind fields ≡ Err f = rw (is, none) refl in absurd cc
checked_by kind fields saying false None is none e =
    let few : length fields ≤ length (sasl_table kind) = ltb-false _ _ is in
    let h : checked kind fields ≡ Ok (saying_of kind fields) = rw (is, none) refl in
    let same : ◌≡◌ {A = Result Saying PerfFault} (Ok (saying_of kind fields)) (Ok saying) = sym h ∙ e in
    (are_fields 1 (sasl_table kind) fields few none, cc)

-- fields that were read fit their table
checked_found : (kind : SaslKind) (fields : List Seen) (saying : Saying) → checked kind fields ≡ Ok saying → AreFields (sasl_table kind) fields × (saying ≡ saying_of kind fields)
checked_found kind fields saying e = checked_by kind fields saying (nat_lt (length (sasl_table kind)) (length fields)) (first_fault 1 (sasl_table kind) fields) refl refl e

checked_again : (kind : SaslKind) (fields : List Seen) → AreFields (sasl_table kind) fields → checked kind fields ≡ Ok (saying_of kind fields)
checked_again kind fields fit =
    let few : nat_lt (length (sasl_table kind)) (length fields) ≡ false = le-ltb _ _ (not_too_many (sasl_table kind) fields fit) in
    rw (few, no_faults 1 (sasl_table kind) fields fit) refl

-- ---- a value

-- a described list, where its parts are known
parts_found : (octets descriptor described : List ℕ) (d v : Part) (saying : Saying) (names : Option SaslKind) → IsValue MAX_DEPTH octets (Described descriptor described)
    → IsValue MAX_DEPTH descriptor d → IsValue MAX_DEPTH described v → kind_named d ≡ names → said_of (option_zip names (list_in v)) ≡ Ok saying
    → IsSasl octets saying
parts_found octets descriptor described d (Nested kinds.List count body) saying (Some kind) whole says list names e =
    let fit = checked_found kind (seen_in count body) saying e in
    record {
      descriptor = descriptor;
      described = described;
      whole = whole;
      says = d;
      descriptor_is = says;
      kind = kind;
      names = names;
      count = count;
      body = body;
      list = list;
      values = seen_in count body;
      items = list_holds described kinds.List count body list;
      fit = fit.0;
      means = fit.1;
    }
parts_found octets descriptor described d _ saying None whole says list names e = absurd cc
parts_found octets descriptor described d _ saying (Some _) whole says list names e = absurd cc

said_found : (octets : List ℕ) (part : Part) (saying : Saying) → IsValue MAX_DEPTH octets part → said part ≡ Ok saying → IsSasl octets saying
said_found octets (Described descriptor described) saying whole e =
    let holds = pair_holds octets descriptor described whole in
    let d = ap (λ (x : Seen). x.part) (value_is descriptor holds.0.says holds.0.is) in
    let v = ap (λ (x : Seen). x.part) (value_is described holds.1.says holds.1.is) in
    let spoken : said_of (option_zip (kind_named holds.0.says) (list_in holds.1.says)) ≡ Ok saying =
    ap (λ (p : Part). said_of (option_zip (kind_named p) (list_in holds.1.says))) (sym d)
    ∙ ap (λ (p : Part). said_of (option_zip (kind_named (seen_of descriptor).part) (list_in p))) (sym v) ∙ e in
    parts_found octets descriptor described holds.0.says holds.1.says saying (kind_named holds.0.says) whole holds.0.is holds.1.is refl spoken
said_found octets (Tagged descriptor constructor own) saying whole e = absurd (not_tagged octets descriptor constructor own whole)
said_found octets _ saying whole e = absurd cc

said_again : (octets : List ℕ) (saying : Saying) (is : IsSasl octets saying) → said (Described is.descriptor is.described) ≡ Ok saying
said_again octets saying is =
    let d : (seen_of is.descriptor).part ≡ is.says = ap (λ (x : Seen). x.part) (value_is is.descriptor is.says is.descriptor_is) in
    let v : (seen_of is.described).part ≡ Nested kinds.List is.count is.body = ap (λ (x : Seen). x.part) (value_is is.described (Nested kinds.List is.count is.body) is.list) in
    ap (λ (p : Part). said_of (option_zip (kind_named p) (list_in (seen_of is.described).part))) d
    ∙ ap (λ (p : Part). said_of (option_zip (kind_named is.says) (list_in p))) v
    ∙ rw (is.names, values_are is.count is.body is.values is.items) (checked_again is.kind is.values is.fit ∙ ap Ok (sym is.means))

-- ---- octets

found_by : (body : List ℕ) (read : Read Seen) (saying : Saying) → seen_at MAX_DEPTH 0 body ≡ read → said_by read ≡ Ok saying → IsSaslFront body saying
found_by body (Ok x) saying is e =
    let front = seen_found MAX_DEPTH 0 body x is in
    record { front = x.0.octets; rest = x.1; parts = front.parts; is = said_found x.0.octets x.0.part saying front.is e }
found_by body (Err fault) saying is e = absurd cc

-- what is read stands at the front
pub sasl_found : (body : List ℕ) (saying : Saying) → sasl_at body ≡ Ok saying → IsSaslFront body saying
unfolding sasl_at
sasl_found body saying e = found_by body (seen_at MAX_DEPTH 0 body) saying refl e

-- what stands at the front is read
pub sasl_again : (body : List ℕ) (saying : Saying) → IsSaslFront body saying → sasl_at body ≡ Ok saying
unfolding sasl_at
sasl_again body saying front =
    let part = Described front.is.descriptor front.is.described in
    let read : seen_at MAX_DEPTH 0 body ≡ Ok (record { octets = front.front; part = part }, front.rest) = ap (seen_at MAX_DEPTH 0) front.parts ∙ seen_again MAX_DEPTH 0 front.front front.rest part front.is.whole in
    rw read (said_again front.front saying front.is)

-- ---- what a function returned

pub is_found : (body : List ℕ) (r : Result SaslFrame PerfFault) → Gives sasl_view r (sasl_at body) → IfOk r (λ frame. IsSaslFront body (sasl_view frame))
is_found body (Ok frame) given = sasl_found body (sasl_view frame) given
is_found body (Err e) given = tt
