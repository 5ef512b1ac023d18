-- One record more, read and judged.
use Rattle.std.proofs.Common.{◌≡◌, refl, sym, ap, subst, ◌∙◌, true, is_some, ℕ, ◌+◌, ◌<◌, ◌≤◌, List, [], ◌∷◌, ◌++◌, length, Option, None, Some, append_assoc, arith}
use Rattle.std.specs.Prelude.{◌≢◌, IfSome}
use Rattle.std.specs.Io.KnownBytes.{Consumes}
use Rattle.std.proofs.lemmas.List.{length-append}
use Rattle.std.proofs.lemmas.List.Concat.{flat_map-cons}
use Rattle.capture_form.specs.declared.records.Record.{Record}
use Rattle.capture_form.specs.declared.reader.Reader.{Reader}
use Rattle.capture_form.specs.declared.fault.FormKind.{FormKind}
use Rattle.capture_form.specs.declared.fault.FormFault.{FormFault}
use Rattle.capture_form.specs.Rules.{RuleSet, AreRules}
use Rattle.capture_form.specs.Text.{IsCapture, IsRecord, record_text, records_text, text, head_text}
use Rattle.capture_form.specs.Reader.{left_of, offset_of, fault_of, text_of_next, IsHead, IsNext, StopsHead, StopsNext}
use Rattle.capture_form.proofs.TextLemmas.{long_record}
use Rattle.capture_form.proofs.Loops.{flat_map_push}
use Rattle.trace_events.specs.declared.clause.Clause.{Clause}
use Rattle.trace_events.specs.declared.tally.Tally.{Tally}
use Rattle.trace_events.specs.Verdict.{tally_of}
use Rattle.trace_events.specs.History.{history}
use Rattle.trace_events.proofs.Broken.{length-history}
use Rattle.audit_core.specs.declared.auditor.Auditor.{Auditor}
use Rattle.audit_core.specs.declared.verdict.Refusal.{Refusal}
use Rattle.audit_core.specs.declared.verdict.Refusal.TheVariants.{Broken, Memory}
use Rattle.audit_core.specs.declared.verdict.Verdict.{Verdict}
use Rattle.audit_core.specs.declared.verdict.Verdict.TheVariants.{Accepted, Refused}
use Rattle.state_ledger.specs.Ledger.{broken_behind}
use Rattle.audit_core.specs.Auditor.{Follows, IsBrokenBehind, IsRefusalBehind, tally_by}
use Rattle.audit_core.specs.Verdict.{AreRefused, broken_in, AnswersRead, IsKept, verdict_of_fault, verdict_of_refusal}
use Rattle.audit_core.proofs.ReadSoFar.{ReadSoFar}
use Rattle.audit_core.proofs.TextLengths.{long_parts}
use Rattle.audit_core.proofs.FrontText.{text_parts, text_push}
use Rattle.audit_core.proofs.Streams.{all_push, accepted, refuses_next, stops_head, stops_next, kept_read}

-- ---- how many records

many_records : (records : List Record) → length records ≤ length (records_text records)
many_records [] = omega arith
many_records (entry ∷ records) =
    let joined : length (records_text (entry ∷ records)) ≡ length (record_text entry) + length (records_text records) = ap length (flat_map-cons record_text entry records) ∙ length-append (record_text entry) (records_text records) in
    omega (arith, joined, long_record entry, many_records records)

-- ---- by what was left at first, and what is left

module _ (rules : RuleSet) (records : List Record) (offset : ℕ) (bounds : IsCapture (record { rules = rules; records = records })) (lawful : broken_in (record { rules = rules; records = records }) ≡ None)
    (place : offset ≡ length (text (record { rules = rules; records = records }))) where
  pub begins : (all rest : List ℕ) → all ≡ records_text records ++ rest → head_text rules ++ all ≡ text (record { rules = rules; records = records }) ++ rest
  begins all rest taken = ap (λ (t : List ℕ). head_text rules ++ t) taken ∙ text_parts rules records rest

  ends_by : (tally : Tally) → tally ≡ tally_of (history rules records) → (first left later : Option (List ℕ)) → Consumes first left (records_text records) → IfSome left (λ octets. IsNext octets later None)
      → IfSome first (λ all. AnswersRead (head_text rules ++ all) (Accepted tally))
  ends_by tally counted None left later taken next = tt
  ends_by tally counted (Some all) None later taken next = absurd taken
  ends_by tally counted (Some all) (Some rest) later taken next = accepted rules records (head_text rules ++ all) rest bounds lawful (begins all rest taken) tally counted next.0

  refuses_by : (entry : Record) → IsRecord entry → (refusal : Refusal) → IsRefusalBehind rules records entry refusal → (first left later : Option (List ℕ)) → Consumes first left (records_text records) → IfSome left (λ octets. IsNext octets later (Some entry))
      → IfSome first (λ all. AnswersRead (head_text rules ++ all) (verdict_of_refusal offset refusal))
  refuses_by entry fits refusal why None left later taken next = tt
  refuses_by entry fits refusal why (Some all) None later taken next = absurd taken
  refuses_by entry fits refusal why (Some all) (Some rest) later taken next =
      refuses_next rules records (head_text rules ++ all) rest bounds lawful (begins all rest taken) entry next.0 fits next.1.spelled refusal offset place why

  stops_by : (form_kind : FormKind) → (first left : Option (List ℕ)) → Consumes first left (records_text records) → IfSome left (StopsNext form_kind)
      → IfSome first (λ all. AnswersRead (head_text rules ++ all) (verdict_of_fault form_kind offset))
  stops_by form_kind None left taken stops = tt
  stops_by form_kind (Some all) None taken stops = absurd taken
  stops_by form_kind (Some all) (Some rest) taken stops = stops_next rules records (head_text rules ++ all) rest bounds lawful (begins all rest taken) offset place form_kind stops

consumes_by : (records : List Record) (entry : Record) (first left later : Option (List ℕ)) → Consumes first left (records_text records) → IfSome left (λ octets. IsNext octets later (Some entry)) → Consumes first later (records_text (records ++ entry ∷ []))
consumes_by records entry None left later taken next = tt
consumes_by records entry (Some all) None later taken next = absurd taken
consumes_by records entry (Some all) (Some rest) later taken next =
    subst (λ o. Consumes (Some all) o (records_text (records ++ entry ∷ []))) (sym next.2)
    (taken ∙ ap (λ (t : List ℕ). records_text records ++ t) next.1.spelled ∙ sym (append_assoc (records_text records) (record_text entry) next.0) ∙ ap (λ (t : List ℕ). t ++ next.0) (sym (flat_map_push record_text records entry)))

keeps_all : (left : Option (List ℕ)) → Consumes left left []
keeps_all None = tt
keeps_all (Some octets) = refl

-- ---- what was found, by what it is

abbrev pub Found : Option (List ℕ) → Option (List ℕ) → Option Record → Type 0
Found left later found = IfSome left (λ octets. IsNext octets later found)

pub found_so : (left later : Option (List ℕ)) (found other : Option Record) → found ≡ other → Found left later found → Found left later other
found_so left later found other is read = subst (λ f. Found left later f) is read

pub fits_so : (found : Option Record) (entry : Record) → found ≡ Some entry → IfSome found IsRecord → IsRecord entry
fits_so found entry is fits = let at : IfSome (Some entry) IsRecord = subst (λ f. IfSome f IsRecord) is fits in at

pub moved_so : (before after : ℕ) (found : Option Record) (entry : Record) → found ≡ Some entry → after ≡ before + length (text_of_next found) → after ≡ before + length (record_text entry)
moved_so before after found entry is moved = moved ∙ ap (λ f. before + length (text_of_next f)) is

-- ---- that some record breaks a clause

such : {A : Type 0} (o : Option A) → is_some o ≡ true → (x : A) × (o ≡ Some x)
such None never = absurd cc
such (Some x) is = (x, refl)

refused_by : (first : Option (List ℕ)) (front : List ℕ) (number : ℕ) (clause : Clause) → IfSome first (λ all. AnswersRead (front ++ all) (Refused number clause)) → IfSome first (λ all. AreRefused (front ++ all))
refused_by None front number clause refuses = tt
refused_by (Some all) front number clause refuses = (number, (clause, refuses))

-- ---- steps

module _ {R : Type 0} (remaining : R → Option (List ℕ)) (rules : RuleSet) where
  pub starts : (reader : Reader R) (auditor : Auditor) (offset : ℕ) (saw : List Record → Type 0) → AreRules rules → Follows auditor rules [] → offset ≡ length (head_text rules) → offset_of reader ≡ length (head_text rules) → fault_of reader ≡ None
      → saw [] → ReadSoFar remaining rules (left_of remaining reader) reader auditor offset saw
  starts reader auditor offset saw bounds follows place at runs unseen = record {
    records = [];
    bounds = record { rules = bounds; records = tt };
    follows = follows;
    read = keeps_all (left_of remaining reader);
    place = omega (arith, place, long_parts (record { rules = rules; records = [] }));
    at = at ∙ sym place;
    runs = runs;
    seen = unseen;
  }

  module _ (first : Option (List ℕ)) (reader : Reader R) (auditor : Auditor) (offset : ℕ) (saw : List Record → Type 0) (so_far : ReadSoFar remaining rules first reader auditor offset saw) where
    -- there is room for one more in the auditor where one was read
    pub few : (most length_next further : ℕ) → further ≡ offset_of reader + length_next → further ≤ most → 0 < length_next → (tally_by auditor).records < most
    few most length_next further moved within some =
        let counted : (tally_by auditor).records ≡ length so_far.records = ap (λ (t : Tally). t.records) so_far.follows.counted ∙ length-history rules so_far.records in
        omega (arith, counted, many_records so_far.records, so_far.place, so_far.at, long_parts (record { rules = rules; records = so_far.records }), moved, within, some)

    pub goes_on : (entry : Record) (next : Reader R) (taker : Auditor) (len : ℕ) (then_saw : List Record → Type 0) → IsRecord entry → len ≡ length (record_text entry) → IfSome (left_of remaining reader) (λ octets. IsNext octets (left_of remaining next) (Some entry))
        → offset_of next ≡ offset_of reader + length (record_text entry) → fault_of next ≡ None
        → ((rs : RuleSet) (es : List Record) → Follows auditor rs es → Follows taker rs (es ++ entry ∷ [])) → ((es : List Record) → Follows auditor rules es → saw es → then_saw (es ++ entry ∷ []))
        → ReadSoFar remaining rules first next taker (offset + len) then_saw
    goes_on entry next taker len then_saw fits counted read moved runs takes sees = record {
      records = so_far.records ++ entry ∷ [];
      bounds = record { rules = so_far.bounds.rules; records = all_push so_far.records entry so_far.bounds.records fits };
      follows = takes rules so_far.records so_far.follows;
      read = consumes_by so_far.records entry first (left_of remaining reader) (left_of remaining next) so_far.read read;
      place = omega (arith, so_far.place, counted, ap length (text_push rules so_far.records entry), length-append (text (record { rules = rules; records = so_far.records })) (record_text entry));
      at = omega (arith, moved, so_far.at, counted);
      runs = runs;
      seen = sees so_far.records so_far.follows so_far.seen;
    }

    pub ends : (tally : Tally) (next : Option (List ℕ)) → tally ≡ tally_by auditor → IfSome (left_of remaining reader) (λ octets. IsNext octets next None) → IfSome first (λ all. AnswersRead (head_text rules ++ all) (Accepted tally))
    ends tally next counted read =
        ends_by rules so_far.records offset so_far.bounds so_far.follows.lawful so_far.place tally (counted ∙ so_far.follows.counted) first (left_of remaining reader) next so_far.read read

    pub refuses : (entry : Record) (next : Option (List ℕ)) (refusal : Refusal) → IsRecord entry → IfSome (left_of remaining reader) (λ octets. IsNext octets next (Some entry))
        → ((rs : RuleSet) (es : List Record) → Follows auditor rs es → IsRefusalBehind rs es entry refusal) → IfSome first (λ all. AnswersRead (head_text rules ++ all) (verdict_of_refusal offset refusal))
    refuses entry next refusal fits read why =
        refuses_by rules so_far.records offset so_far.bounds so_far.follows.lawful so_far.place entry fits refusal (why rules so_far.records so_far.follows) first (left_of remaining reader) next so_far.read read

    -- what breaks some clause is refused
    pub breaks : (entry : Record) (next : Option (List ℕ)) (refusal : Refusal) → IsRecord entry → IfSome (left_of remaining reader) (λ octets. IsNext octets next (Some entry)) → refusal ≢ Memory
        → ((rs : RuleSet) (es : List Record) → Follows auditor rs es → IsBrokenBehind rs es entry refusal) → IfSome first (λ all. AreRefused (head_text rules ++ all))
    breaks entry next (Broken number clause) fits read some why =
        let told = why rules so_far.records so_far.follows in
        let first_one = such (broken_behind rules so_far.records entry) told.1 in
        refused_by first (head_text rules) number first_one.0
        (refuses_by rules so_far.records offset so_far.bounds so_far.follows.lawful so_far.place entry fits (Broken number first_one.0) (told.0, first_one.1) first (left_of remaining reader) next so_far.read read)
    breaks entry next Memory fits read some why = absurd (some refl)

    pub stops : (fault : FormFault) → (fault_of reader ≡ None → fault.offset ≡ offset_of reader) → (fault_of reader ≡ None → IfSome (left_of remaining reader) (StopsNext fault.kind))
        → IfSome first (λ all. AnswersRead (head_text rules ++ all) (verdict_of_fault fault.kind fault.offset))
    stops fault there why =
        subst (λ o. IfSome first (λ all. AnswersRead (head_text rules ++ all) (verdict_of_fault fault.kind o))) (sym (there so_far.runs ∙ so_far.at))
        (stops_by rules so_far.records offset so_far.bounds so_far.follows.lawful so_far.place fault.kind first (left_of remaining reader) so_far.read (why so_far.runs))

-- ---- of all octets that are known

pub head_known : (known : Option (List ℕ)) (fault : FormFault) → IfSome known (StopsHead fault.kind fault.offset) → IfSome known (λ octets. AnswersRead octets (verdict_of_fault fault.kind fault.offset))
head_known None fault stops = tt
head_known (Some octets) fault stops = stops_head fault.kind fault.offset octets stops

pub read_known : (known left : Option (List ℕ)) (rules : RuleSet) (verdict : Verdict) → IfSome known (λ octets. IsHead octets left rules)
    → IfSome left (λ all. AnswersRead (head_text rules ++ all) verdict) → IfSome known (λ octets. AnswersRead octets verdict)
read_known None left rules verdict head answers = tt
read_known (Some octets) left rules verdict head answers =
    let behind : IfSome (Some head.0) (λ all. AnswersRead (head_text rules ++ all) verdict) = subst (λ l. IfSome l (λ all. AnswersRead (head_text rules ++ all) verdict)) head.2 answers in
    subst (λ o. AnswersRead o verdict) (sym head.1.spelled) behind

pub kept_known : (known : Option (List ℕ)) (verdict : Verdict) → IfSome known (λ octets. AnswersRead octets verdict) → IfSome known (λ octets. (tally : Tally) → verdict ≡ Accepted tally → IsKept octets)
kept_known None verdict answers = tt
kept_known (Some octets) verdict answers = kept_read octets verdict answers

pub refused_known : (known left : Option (List ℕ)) (rules : RuleSet) → IfSome known (λ octets. IsHead octets left rules) → IfSome left (λ all. AreRefused (head_text rules ++ all)) → IfSome known AreRefused
refused_known None left rules head refused = tt
refused_known (Some octets) left rules head refused =
    let behind : IfSome (Some head.0) (λ all. AreRefused (head_text rules ++ all)) = subst (λ l. IfSome l (λ all. AreRefused (head_text rules ++ all))) head.2 refused in
    subst AreRefused (sym head.1.spelled) behind
