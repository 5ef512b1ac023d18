-- What was read and found, as an answer.
use Rattle.std.proofs.Common.{◌≡◌, refl, sym, ap, subst, ◌∙◌, ℕ, zero, suc, ◌<◌, ◌^◌, List, [], ◌∷◌, ◌++◌, length, take, Bool, true, false, Option, Some, None, Ok, Err, ◌⊎◌, inl, inr, append_assoc, arith}
use Rattle.std.specs.Prelude.{IfSome, is_ok}
use Rattle.std.specs.Int.{w16, to_be_bytes}
use Rattle.std.specs.List.{flat_map, AllByRecursion}
use Rattle.std.proofs.lemmas.List.{append-nil, length-append}
use Rattle.std.proofs.lemmas.List.Concat.{flat_map-cons}
use Rattle.std.proofs.lemmas.Grind.{flat_map-append}
use Rattle.capture_form.specs.declared.fault.FormFault.{FormFault}
use Rattle.capture_form.specs.declared.records.Record.{Record}
use Rattle.capture_form.specs.Frame.{AreOctets}
use Rattle.capture_form.specs.Rules.{RuleText, RuleSet, no_rules, IsRule, AreRules}
use Rattle.audit_core.specs.Stops.{rules_start}
use Rattle.audit_core.proofs.TextLengths.{starts_at}
use Rattle.capture_form.specs.Text.{Trace, IsCapture, form_text, rule_text, rules_text, record_text, records_text, text}
use Rattle.capture_form.specs.Reading.{Reads, reading, head_at, rule_at}
use Rattle.capture_form.specs.Laws.{BeginsWith, HasHead, trace_of}
use Rattle.capture_form.specs.Gives.{is_refusal, was_refused, IsRuleStart, IsRefusedRule, IsRefusedRecord}
use Rattle.capture_form.proofs.FormLemmas.{form_short}
use Rattle.capture_form.proofs.ReadingLaws.{headless}
use Rattle.capture_form.proofs.RuleLemmas.{rule_again}
use Rattle.capture_form.proofs.WritingLemmas.{long_text}
use Rattle.trace_events.specs.declared.clause.Clause.{Clause}
use Rattle.trace_events.specs.declared.tally.Tally.{Tally}
use Rattle.trace_events.specs.Verdict.{tallied_or}
use Rattle.trace_events.proofs.Keeping.{lawful-keeps}
use Rattle.audit_core.specs.declared.judging.Stop.{Stop}
use Rattle.audit_core.specs.declared.judging.Stop.TheVariants as stops
use Rattle.audit_core.specs.declared.verdict.Refusal.{Refusal}
use Rattle.audit_core.specs.declared.verdict.Refusal.TheVariants.{Broken}
use Rattle.audit_core.specs.declared.verdict.Verdict.{Verdict}
use Rattle.audit_core.specs.declared.verdict.Verdict.TheVariants.{Accepted}
use Rattle.audit_core.specs.Verdict.{broken_in, tally_in, first_of, as_answer, answer_of, Accepts, Refuses, Answers, AnswersCapture, IsRefusedAt, IsKept}
use Rattle.audit_core.specs.Stops.{StopsAudit, stops_within, refusal_on, verdict_on}
use Rattle.audit_core.proofs.Verdicts.{broken-more, refuses, accepts}

-- ---- a capture's answer says what is broken in it

broken-by : (tally : Tally) (o : Option (ℕ × Clause)) (number : ℕ) (clause : Clause) → as_answer (tallied_or tally o) ≡ Err (Broken number clause) → o ≡ Some (number, clause)
broken-by tally None number clause e = absurd cc
broken-by tally (Some x) number clause e =
    let same : ◌≡◌ {A = Refusal} (Broken x.0 x.1) (Broken number clause) = cc in
    let numbers : x.0 ≡ number = cc in
    let clauses : x.1 ≡ clause = cc in
    ap (λ (n : ℕ). Some (n, x.1)) numbers ∙ ap (λ (c : Clause). Some (number, c)) clauses

lawful-by : (tally given : Tally) (o : Option (ℕ × Clause)) → as_answer (tallied_or tally o) ≡ Ok given → (o ≡ None) × (given ≡ tally)
lawful-by tally given None e = (refl, cc)
lawful-by tally given (Some x) e = absurd cc

-- ---- what reading gives

abbrev Stopped : List ℕ → Trace → FormFault → Type 0
Stopped octets capture f = IsRefusedRule octets capture f.offset ⊎ IsRefusedRecord octets capture f.offset

-- where memory was not refused
abbrev Exact : List ℕ → Trace → Option FormFault → Type 0
Exact octets capture fault = was_refused fault ≡ false → ◌≡◌ {A = Reads} (record { rules = capture.rules; records = capture.records; fault = fault }) (reading octets)

abbrev nothing : Trace
nothing = record { rules = no_rules; records = [] }

-- rules and records that were read: all others that can be read stand behind them
pub record ReadInFront (octets : List ℕ) (capture : Trace) : Type 0 where
  pub rules : (reading octets).rules ≡ capture.rules
  pub records : BeginsWith (reading octets).records capture.records
  pub front : BeginsWith octets (text capture)

in_front : (octets : List ℕ) (capture : Trace) (fault : Option FormFault) → Exact octets capture fault → (was_refused fault ≡ false → HasHead octets → BeginsWith octets (text capture))
    → IfSome fault (λ f. is_refusal f.kind ≡ true → Stopped octets capture f) → (capture ≡ nothing) ⊎ ReadInFront octets capture
in_front octets capture fault exact found at = by (was_refused fault) refl
  where
    whole : (b : Bool) → is_ok (head_at octets) ≡ b → was_refused fault ≡ false → (capture ≡ nothing) ⊎ ReadInFront octets capture
    whole true has not = inr (record {
      rules = ap (λ (r : Reads). r.rules) (sym (exact not));
      records = ([], ap (λ (r : Reads). r.records) (sym (exact not)) ∙ sym (append-nil capture.records));
      front = found not has;
    })
    whole false has not =
        let none = headless octets has in
        let rules : capture.rules ≡ no_rules = ap (λ (r : Reads). r.rules) (exact not) ∙ none.0 in
        let records : capture.records ≡ [] = ap (λ (r : Reads). r.records) (exact not) ∙ none.1 in
        inl (ap (λ (rs : RuleSet). let t : Trace = record { rules = rs; records = capture.records } in t) rules ∙ ap (λ (es : List Record). let t : Trace = record { rules = no_rules; records = es } in t) records)

    stopped_at : (f : FormFault) → Stopped octets capture f → (capture ≡ nothing) ⊎ ReadInFront octets capture
    stopped_at f (inl rule) = inl rule.nothing
    stopped_at f (inr next) = inr (record { rules = next.rules; records = (next.entry ∷ next.behind, next.records); front = next.front })

    refused : (o : Option FormFault) → was_refused o ≡ true → IfSome o (λ f. is_refusal f.kind ≡ true → Stopped octets capture f) → (capture ≡ nothing) ⊎ ReadInFront octets capture
    refused None is stopped = absurd cc
    refused (Some f) is stopped = stopped_at f (stopped is)

    by : (b : Bool) → was_refused fault ≡ b → (capture ≡ nothing) ⊎ ReadInFront octets capture
    by false is = whole (is_ok (head_at octets)) refl is
    by true is = refused fault is at

-- ---- memory that was refused where they are judged

first_rule : (rules : List RuleText) → 0 < length rules → (rule : RuleText) × (more : List RuleText) × (rules ≡ rule ∷ more)
first_rule [] some = absurd (omega (arith, some))
first_rule (rule ∷ more) some = (rule, more, refl)

-- the first rule stands behind their number
rule_starts : (rules : RuleSet) (records : List Record) (octets behind : List ℕ) → AreRules rules → 0 < length rules.list → octets ≡ text (record { rules = rules; records = records }) ++ behind → IsRuleStart octets (rules_start rules.form)
unfolding text rules_text
rule_starts rules records octets behind bounds some begins =
    let f = first_rule rules.list some in
    let rule = f.0 in
    let rest = flat_map rule_text rules.list ++ (records_text records ++ behind) in
    let parts : octets ≡ (form_text rules.form ++ (to_be_bytes w16 (length rules.list) ++ [])) ++ (flat_map rule_text rules.list ++ (records_text records ++ behind)) =
    begins ∙ regrouped (form_text rules.form) (to_be_bytes w16 (length rules.list)) (flat_map rule_text rules.list) (records_text records) behind in
    let first : flat_map rule_text rules.list ++ (records_text records ++ behind) ≡ rule_text f.0 ++ (flat_map rule_text f.1 ++ (records_text records ++ behind)) =
    ap (λ (rs : List RuleText). flat_map rule_text rs ++ (records_text records ++ behind)) f.2
    ∙ ap (λ (t : List ℕ). t ++ (records_text records ++ behind)) (flat_map-cons rule_text f.0 f.1)
    ∙ append_assoc (rule_text f.0) (flat_map rule_text f.1) (records_text records ++ behind) in
    let is_rule : AllByRecursion IsRule (f.0 ∷ f.1) = subst (λ rs. AllByRecursion IsRule rs) f.2 bounds.each in
    let reads = ap (rule_at []) first ∙ rule_again [] f.0 (flat_map rule_text f.1 ++ (records_text records ++ behind)) is_rule.0 refl in
    record {
      form = rules.form;
      count = length rules.list;
      rules = [];
      rest = flat_map rule_text rules.list ++ (records_text records ++ behind);
      fewer = some;
      front = parts;
      sound = ap is_ok reads;
      place = starts_at rules.form ∙ sym (length-append (form_text rules.form) (to_be_bytes w16 (length rules.list) ++ []));
    }
  where
    regrouped : (form number rules records behind : List ℕ) → (form ++ ((number ++ rules) ++ records)) ++ behind ≡ (form ++ (number ++ [])) ++ (rules ++ (records ++ behind))
    regrouped form number rules records behind = simp (append_assoc, append-nil)

at_rules : (octets : List ℕ) (capture : Trace) → IsCapture capture → 0 < length capture.rules.list → (capture ≡ nothing) ⊎ ReadInFront octets capture → IsRefusedAt octets (rules_start capture.rules.form)
at_rules octets capture bounds some (inl none) = absurd (omega (arith, some, ap (λ (t : Trace). length t.rules.list) none))
at_rules octets capture bounds some (inr read) =
    record { trace = nothing; place = inl (record { nothing = refl; start = rule_starts capture.rules capture.records octets read.front.0 bounds.rules some read.front.1 }); lawful = refl }

-- a list around one of its places
around : (rs : List Record) (n : ℕ) → n < length rs → (entry : Record) × (more : List Record) × (rs ≡ take n rs ++ entry ∷ more)
around [] n lt = absurd (omega (arith, lt))
around (r ∷ rs) zero lt = (r, rs, refl)
around (r ∷ rs) (suc n) lt = let a = around rs n (omega (arith, lt)) in (a.0, a.1, ap (λ es. r ∷ es) a.2)

text_cut : (rules : RuleSet) (front more : List Record) → text (record { rules = rules; records = front ++ more }) ≡ text (record { rules = rules; records = front }) ++ records_text more
unfolding text
text_cut rules front more =
    ap (λ (t : List ℕ). form_text rules.form ++ (rules_text rules.list ++ t)) (flat_map-append record_text front more)
    ∙ ap (λ (t : List ℕ). form_text rules.form ++ t) (sym (append_assoc (rules_text rules.list) (records_text front) (records_text more)))
    ∙ sym (append_assoc (form_text rules.form) (rules_text rules.list ++ records_text front) (records_text more))

at_record : (octets : List ℕ) (capture : Trace) (number : ℕ) → number < length capture.records → broken_in (first_of number capture) ≡ None → (capture ≡ nothing) ⊎ ReadInFront octets capture
    → IsRefusedAt octets (length (text (first_of number capture)))
at_record octets capture number lt lawful (inl none) = absurd (omega (arith, lt, ap (λ (t : Trace). length t.records) none))
at_record octets capture number lt lawful (inr read) =
    let a = around capture.records number lt in
    let cut : text capture ≡ text (first_of number capture) ++ records_text (a.0 ∷ a.1) =
    ap (λ (es : List Record). text (record { rules = capture.rules; records = es })) a.2 ∙ text_cut capture.rules (take number capture.records) (a.0 ∷ a.1) in
    record {
      trace = first_of number capture;
      place = inr (record {
        rules = read.rules;
        entry = a.0;
        behind = a.1 ++ read.records.0;
        records = read.records.1 ∙ ap (λ (es : List Record). es ++ read.records.0) a.2 ∙ append_assoc (take number capture.records) (a.0 ∷ a.1) read.records.0;
        front = (records_text (a.0 ∷ a.1) ++ read.front.0, read.front.1 ∙ ap (λ (t : List ℕ). t ++ read.front.0) cut ∙ append_assoc (text (first_of number capture)) (records_text (a.0 ∷ a.1)) read.front.0);
        place = refl;
      });
      lawful = lawful;
    }

module _ (octets : List ℕ) (capture : Trace) where
  -- what is broken in what was read before memory was refused is broken in all that can be read
  stopped : (f : FormFault) → Stopped octets capture f → (x : ℕ × Clause) → broken_in capture ≡ Some x → broken_in (trace_of (reading octets)) ≡ Some x
  stopped f (inl rule) x broken = let none : broken_in capture ≡ None = ap broken_in rule.nothing in absurd cc
  stopped f (inr next) x broken = broken-more capture (trace_of (reading octets)) (next.entry ∷ next.behind) x next.rules next.records broken

  whole : (fault : Option FormFault) → was_refused fault ≡ false → Exact octets capture fault → broken_in (trace_of (reading octets)) ≡ broken_in capture
  whole fault not exact = ap (λ (r : Reads). broken_in (trace_of r)) (sym (exact not))

  some : (f : FormFault) (b : Bool) → is_refusal f.kind ≡ b → Exact octets capture (Some f) → (is_refusal f.kind ≡ true → Stopped octets capture f)
      → (x : ℕ × Clause) → broken_in capture ≡ Some x → broken_in (trace_of (reading octets)) ≡ Some x
  some f true is exact at x broken = stopped f (at is) x broken
  some f false is exact at x broken = whole (Some f) is exact ∙ broken

  read : (fault : Option FormFault) → Exact octets capture fault → IfSome fault (λ f. is_refusal f.kind ≡ true → Stopped octets capture f)
      → (x : ℕ × Clause) → broken_in capture ≡ Some x → broken_in (trace_of (reading octets)) ≡ Some x
  read None exact at x broken = whole None refl exact ∙ broken
  read (Some f) exact at x broken = some f (is_refusal f.kind) refl exact at x broken

  module _ (fault : Option FormFault) (fits : AreOctets octets) (exact : Exact octets capture fault) where
    -- a broken record among those that were read
    pub refused : (number : ℕ) (clause : Clause) → answer_of capture ≡ Err (Broken number clause)
        → IfSome fault (λ f. is_refusal f.kind ≡ true → Stopped octets capture f) → Refuses octets number clause
    refused number clause is at = refuses octets number clause fits (read fault exact at (number, clause) (broken-by (tally_in capture) (broken_in capture) number clause is))

    -- a broken record, or memory that was refused for what is there
    pub stopped_so : (stop : Stop) → IsCapture capture → (was_refused fault ≡ false → HasHead octets → BeginsWith octets (text capture)) → IfSome fault (λ f. is_refusal f.kind ≡ true → Stopped octets capture f)
        → StopsAudit capture stop → Answers octets (verdict_on capture stop)
    stopped_so (stops.Broken number clause) bounds found at why = refused number clause why at
    stopped_so stops.AtRules bounds found at why = at_rules octets capture bounds why (in_front octets capture fault exact found at)
    stopped_so (stops.AtRecord number) bounds found at why = at_record octets capture number why.0 why.1 (in_front octets capture fault exact found at)

    -- the text of what was read is no longer than the octets, or as the shortest
    pub short : (was_refused fault ≡ false → HasHead octets → BeginsWith octets (text capture)) → IfSome fault (λ f. is_refusal f.kind ≡ true → Stopped octets capture f) → length octets < 2 ^ 64 → length (text capture) < 2 ^ 64
    short found at few = by (in_front octets capture fault exact found at)
      where
        by : (capture ≡ nothing) ⊎ ReadInFront octets capture → length (text capture) < 2 ^ 64
        by (inl none) = omega (arith, ap (λ (t : Trace). length (text t)) none, long_text nothing, form_short nothing.rules.form)
        by (inr read) = omega (arith, few, ap length read.front.1, length-append (text capture) read.front.0)

    -- no fault, and no broken record
    pub accepted : (tally : Tally) → answer_of capture ≡ Ok tally → fault ≡ None → Accepts octets tally
    accepted tally is none =
        let all : ◌≡◌ {A = Reads} (record { rules = capture.rules; records = capture.records; fault = fault }) (reading octets) = exact (ap was_refused none) in
        let found = lawful-by (tally_in capture) tally (broken_in capture) is in
        let a = accepts octets fits (ap (λ (r : Reads). r.fault) (sym all) ∙ none) (ap (λ (r : Reads). broken_in (trace_of r)) (sym all) ∙ found.0) in
        let counted : tally ≡ tally_in (trace_of (reading octets)) = found.1 ∙ ap (λ (r : Reads). tally_in (trace_of r)) all in
        subst (λ t. Accepts octets t) (sym counted) a

-- ---- what acceptance is worth

pub kept : (octets : List ℕ) (verdict : Verdict) → Answers octets verdict → (tally : Tally) → verdict ≡ Accepted tally → IsKept octets
kept octets verdict answers tally is =
    let accepts : Accepts octets tally = subst (λ v. Answers octets v) is answers in
    record { trace = accepts.trace; bounds = accepts.bounds; whole = accepts.whole; keeps = lawful-keeps accepts.trace.rules accepts.trace.records accepts.lawful }

-- ---- a capture's answer

pub answers_stop : (capture : Trace) (stop : Stop) → StopsAudit capture stop → AnswersCapture capture (Err (refusal_on stop))
answers_stop capture (stops.Broken number clause) why = why
answers_stop capture stops.AtRules why = inl why
answers_stop capture (stops.AtRecord number) why = inr (number, why.0, why.1)

-- a record at which it stops is there
pub within : (capture : Trace) (stop : Stop) → StopsAudit capture stop → stops_within stop capture
within capture (stops.Broken number clause) why = tt
within capture stops.AtRules why = tt
within capture (stops.AtRecord number) why = omega (arith, why.0)
