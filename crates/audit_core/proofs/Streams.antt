-- What was read and judged of the octets of a reader, as an answer.
use Rattle.std.proofs.Common.{◌≡◌, refl, sym, ap, subst, ◌∙◌, ℕ, ◌-◌, ◌<◌, List, [], ◌∷◌, ◌++◌, length, None, Some, Result, Ok, Err, inl, inr, append_assoc, arith}
use Rattle.std.specs.Prelude.{IsOk}
use Rattle.std.specs.List.{AllByRecursion}
use Rattle.std.proofs.lemmas.List.{append-nil, length-append}
use Rattle.capture_form.specs.declared.records.Record.{Record}
use Rattle.capture_form.specs.declared.fault.FormKind.{FormKind}
use Rattle.capture_form.specs.declared.fault.FormKind.TheVariants as kinds
use Rattle.capture_form.specs.declared.fault.FormFault.{FormFault}
use Rattle.capture_form.specs.Rules.{RuleSet, no_rules}
use Rattle.capture_form.specs.Text.{Trace, IsCapture, IsRecord, record_text, text}
use Rattle.capture_form.specs.Reading.{record_at, records_at, head_at, Reads, reads_behind, reading}
use Rattle.capture_form.specs.Laws.{trace_of}
use Rattle.capture_form.specs.Reader.{StopsNext, StopsHead}
use Rattle.trace_events.specs.declared.clause.Clause.{Clause}
use Rattle.trace_events.specs.declared.tally.Tally.{Tally}
use Rattle.trace_events.proofs.Keeping.{lawful-keeps}
use Rattle.audit_core.specs.declared.verdict.Refusal.{Refusal}
use Rattle.audit_core.specs.declared.verdict.Refusal.TheVariants.{Broken, Memory}
use Rattle.audit_core.specs.declared.verdict.Verdict.{Verdict}
use Rattle.audit_core.specs.declared.verdict.Verdict.TheVariants.{Accepted}
use Rattle.state_ledger.specs.Ledger.{broken_behind}
use Rattle.audit_core.specs.Auditor.{IsRefusalBehind}
use Rattle.audit_core.specs.Verdict.{broken_in, tally_in, Accepts, Refuses, IsMalformed, IsRefusedAt, AnswersRead, IsKept, verdict_of_fault, verdict_of_refusal}
use Rattle.audit_core.proofs.Taken.{broken_first}
use Rattle.audit_core.proofs.FrontText.{first_read, first_fault, text_push, reads_from}

pub all_push : (entries : List Record) (entry : Record) → AllByRecursion IsRecord entries → IsRecord entry → AllByRecursion IsRecord (entries ++ entry ∷ [])
all_push [] entry h g = (g, tt)
all_push (e ∷ entries) entry h g = (h.0, all_push entries entry h.1 g)

-- ---- the head

malformed_head : (octets : List ℕ) (fault : FormFault) → head_at octets ≡ Err fault → IsMalformed octets fault.offset fault.kind
unfolding reading
malformed_head octets fault e =
    let reads : ◌≡◌ {A = Reads} (reading octets) (record { rules = no_rules; records = []; fault = Some fault }) = ap (reads_behind (length octets)) e in
    record { fault = ap (λ (r : Reads). r.fault) reads; lawful = ap (λ (r : Reads). broken_in (trace_of r)) reads }

-- what stops the reading of the head
pub stops_head : (form_kind : FormKind) (offset : ℕ) (octets : List ℕ) → StopsHead form_kind offset octets → AnswersRead octets (verdict_of_fault form_kind offset)
stops_head kinds.Magic offset octets e = malformed_head octets (record { offset = offset; kind = kinds.Magic }) e
stops_head kinds.Rules offset octets e = malformed_head octets (record { offset = offset; kind = kinds.Rules }) e
stops_head kinds.Kind offset octets e = malformed_head octets (record { offset = offset; kind = kinds.Kind }) e
stops_head kinds.Note offset octets e = malformed_head octets (record { offset = offset; kind = kinds.Note }) e
stops_head kinds.Length offset octets e = malformed_head octets (record { offset = offset; kind = kinds.Length }) e
stops_head kinds.Truncated offset octets e = malformed_head octets (record { offset = offset; kind = kinds.Truncated }) e
stops_head kinds.Memory offset octets (inl start) = inl start
stops_head kinds.Memory offset octets (inr rule) = inr (record { trace = record { rules = no_rules; records = [] }; place = inl (record { nothing = refl; start = rule }); lawful = refl })
stops_head kinds.Read offset octets start = inl start

-- ---- records behind those that were judged

module _ (rules : RuleSet) (records : List Record) (octets rest : List ℕ) (bounds : IsCapture (record { rules = rules; records = records }))
    (lawful : broken_in (record { rules = rules; records = records }) ≡ None) (begins : octets ≡ text (record { rules = rules; records = records }) ++ rest) where
  abbrev trace : Trace
  trace = record { rules = rules; records = records }

  -- nothing is left
  pub accepted : (tally : Tally) → tally ≡ tally_in (record { rules = rules; records = records }) → rest ≡ [] → Accepts octets tally
  accepted tally counted none =
      record { trace = trace; bounds = bounds; whole = begins ∙ ap (λ (t : List ℕ). text trace ++ t) none ∙ append-nil (text trace); lawful = lawful; counted = counted }

  module _ (entry : Record) (behind : List ℕ) (fits : IsRecord entry) (next : rest ≡ record_text entry ++ behind) where
    abbrev longer : Trace
    longer = record { rules = rules; records = records ++ entry ∷ [] }

    pub longer_bounds : IsCapture (record { rules = rules; records = records ++ entry ∷ [] })
    longer_bounds = record { rules = bounds.rules; records = all_push records entry bounds.records fits }

    pub longer_begins : octets ≡ text (record { rules = rules; records = records ++ entry ∷ [] }) ++ behind
    longer_begins =
        begins ∙ ap (λ (t : List ℕ). text trace ++ t) next ∙ sym (append_assoc (text trace) (record_text entry) behind)
        ∙ ap (λ (t : List ℕ). t ++ behind) (sym (text_push rules records entry))

    refused : (number : ℕ) (clause : Clause) → number ≡ length records → broken_behind rules records entry ≡ Some clause → Refuses octets number clause
    refused number clause counted broken =
        record {
          trace = longer;
          rest = behind;
          bounds = longer_bounds;
          begins = longer_begins;
          last = length-append records (entry ∷ []) ∙ omega (arith, counted);
          broken = broken_first rules records entry clause lawful broken ∙ ap (λ n. Some (n, clause)) (sym counted);
        }

    unkept : (offset : ℕ) → offset ≡ length (text (record { rules = rules; records = records })) → IsRefusedAt octets offset
    unkept offset place =
        let from = reads_from longer octets behind longer_bounds longer_begins in
        let more = (records_at from.room (length octets) behind).records in
        record {
          trace = trace;
          place = inr (record {
            rules = ap (λ (r : Reads). r.rules) from.reads;
            entry = entry;
            behind = (records_at from.room (length octets) behind).records;
            records = ap (λ (r : Reads). r.records) from.reads ∙ append_assoc records (entry ∷ []) (records_at from.room (length octets) behind).records;
            front = (rest, begins);
            place = place;
          });
          lawful = lawful;
        }

    -- the auditor refuses the next record
    pub refuses_next : (refusal : Refusal) (offset : ℕ) → offset ≡ length (text (record { rules = rules; records = records })) → IsRefusalBehind rules records entry refusal
        → AnswersRead octets (verdict_of_refusal offset refusal)
    refuses_next (Broken number clause) offset place why = refused number clause why.0 why.1
    refuses_next Memory offset place why = inr (unkept offset place)

  -- ---- the next record is not read

  -- the records in front of its fault are all that the octets have
  pub reads_to : (form_kind : FormKind) → 0 < length rest → record_at rest ≡ Err form_kind → (reading octets).records ≡ records
  reads_to form_kind some e =
      let from = reads_from trace octets rest bounds begins in
      let found = first_fault from.room (length octets) rest form_kind some from.enough e in
      ap (λ (r : Reads). r.records) from.reads ∙ ap (λ r. records ++ r.records) found ∙ append-nil records

  -- and their rules are all that they have
  pub rules_to : (reading octets).rules ≡ rules
  rules_to = let from = reads_from trace octets rest bounds begins in ap (λ (r : Reads). r.rules) from.reads

  module _ (offset : ℕ) (place : offset ≡ length (text (record { rules = rules; records = records }))) where
    malformed : (form_kind : FormKind) → 0 < length rest → record_at rest ≡ Err form_kind → IsMalformed octets offset form_kind
    malformed form_kind some e =
        let from = reads_from trace octets rest bounds begins in
        let found = first_fault from.room (length octets) rest form_kind some from.enough e in
        let start : length octets - length rest ≡ offset = omega (arith, place, ap length begins, length-append (text trace) rest) in
        let reads : ◌≡◌ {A = Reads} (reading octets) (record { rules = rules; records = records; fault = Some (record { offset = offset; kind = form_kind }) }) =
        from.reads ∙ ap (λ r. let reads : Reads = record { rules = rules; records = records ++ r.records; fault = r.fault } in reads) found
        ∙ ap (λ (es : List Record). let reads : Reads = record { rules = rules; records = es; fault = Some (record { offset = length octets - length rest; kind = form_kind }) } in reads) (append-nil records)
        ∙ ap (λ (o : ℕ). let reads : Reads = record { rules = rules; records = records; fault = Some (record { offset = o; kind = form_kind }) } in reads) start in
        record { fault = ap (λ (r : Reads). r.fault) reads; lawful = ap (λ (r : Reads). broken_in (trace_of r)) reads ∙ lawful }

    unread : (r : Result (Record × List ℕ) FormKind) → record_at rest ≡ r → IsOk r → 0 < length rest → IsRefusedAt octets offset
    unread (Err fault) e ok some = absurd cc
    unread (Ok x) e ok some =
        let from = reads_from trace octets rest bounds begins in
        let found = first_read from.room (length octets) rest x.0 x.1 some from.enough e in
        record {
          trace = trace;
          place = inr (record {
            rules = ap (λ (r : Reads). r.rules) from.reads;
            entry = x.0;
            behind = found.0;
            records = ap (λ (r : Reads). r.records) from.reads ∙ ap (λ (es : List Record). records ++ es) found.1;
            front = (rest, begins);
            place = place;
          });
          lawful = lawful;
        }

    pub stops_next : (form_kind : FormKind) → StopsNext form_kind rest → AnswersRead octets (verdict_of_fault form_kind offset)
    stops_next kinds.Magic stops = malformed kinds.Magic stops.0 stops.1
    stops_next kinds.Rules stops = malformed kinds.Rules stops.0 stops.1
    stops_next kinds.Kind stops = malformed kinds.Kind stops.0 stops.1
    stops_next kinds.Note stops = malformed kinds.Note stops.0 stops.1
    stops_next kinds.Length stops = malformed kinds.Length stops.0 stops.1
    stops_next kinds.Truncated stops = malformed kinds.Truncated stops.0 stops.1
    stops_next kinds.Memory stops = inr (unread (record_at rest) refl stops.1 stops.0)
    stops_next kinds.Read stops = inr (record { trace = trace; bounds = bounds; front = (rest, begins); place = place; lawful = lawful })

-- ---- what acceptance is worth

pub kept_read : (octets : List ℕ) (verdict : Verdict) → AnswersRead octets verdict → (tally : Tally) → verdict ≡ Accepted tally → IsKept octets
kept_read octets verdict answers tally is =
    let accepts : Accepts octets tally = subst (λ v. AnswersRead octets v) is answers in
    record { trace = accepts.trace; bounds = accepts.bounds; whole = accepts.whole; keeps = lawful-keeps accepts.trace.rules accepts.trace.records accepts.lawful }
