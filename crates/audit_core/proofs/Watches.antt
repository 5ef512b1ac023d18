-- What a watcher has seen of octets where their reading ends.
use Rattle.std.proofs.Common.{◌≡◌, refl, sym, ap, Bool, true, false, subst, ◌∙◌, ℕ, List, [], ◌∷◌, ◌++◌, length, Option, None, Some}
use Rattle.std.specs.Prelude.{◌≢◌, ◌<◌, Err, IfSome, is_ok}
use Rattle.std.specs.Io.KnownBytes.{Consumes}
use Rattle.std.proofs.lemmas.List.{append-nil}
use Rattle.capture_form.specs.declared.records.Record.{Record}
use Rattle.capture_form.specs.declared.reader.Reader.{Reader}
use Rattle.capture_form.specs.declared.fault.FormKind.{FormKind}
use Rattle.capture_form.specs.declared.fault.FormKind.TheVariants as kinds
use Rattle.capture_form.specs.declared.fault.FormFault.{FormFault}
use Rattle.capture_form.specs.Rules.{RuleSet, no_rules}
use Rattle.capture_form.specs.Text.{IsRecord, record_text, records_text, text, head_text}
use Rattle.capture_form.specs.Reading.{head_at, reading, record_at}
use Rattle.capture_form.specs.Reader.{left_of, fault_of, IsHead, IsNext, StopsHead, StopsNext}
use Rattle.capture_form.proofs.ReadingLaws.{headless}
use Rattle.trace_events.specs.declared.clause.Clause.{Clause}
use Rattle.trace_events.specs.declared.tally.Tally.{Tally}
use Rattle.state_ledger.specs.declared.ledger.Ledger.{Ledger}
use Rattle.state_ledger.specs.Ledger.{Stands, StandsWhole}
use Rattle.audit_core.specs.declared.auditor.Auditor.{Auditor}
use Rattle.audit_core.specs.declared.verdict.Refusal.{Refusal}
use Rattle.audit_core.specs.declared.verdict.Refusal.TheVariants.{Broken, Memory}
use Rattle.audit_core.specs.declared.verdict.Verdict.{Verdict}
use Rattle.audit_core.specs.declared.verdict.Verdict.TheVariants.{Accepted}
use Rattle.audit_core.specs.declared.verdict.Verdict.TheVariants as verdicts
use Rattle.audit_core.specs.Auditor.{IsRefusalBehind, StandsFor, rules_of}
use Rattle.audit_core.specs.Verdict.{is_sure, verdict_of_fault, verdict_of_refusal}
use Rattle.audit_core.specs.Watching.{SawAll, Watched}
use Rattle.audit_core.proofs.ReadSoFar.{ReadSoFar}
use Rattle.audit_core.proofs.ReadSteps.{begins}
use Rattle.audit_core.proofs.Streams.{longer_bounds, longer_begins, reads_to, rules_to}

-- one that keeps all is sure of each verdict
pub sure_kept : (verdict : Verdict) → is_sure false verdict ≡ true
sure_kept (Accepted tally) = refl
sure_kept (verdicts.Refused number clause) = refl
sure_kept (verdicts.Malformed offset form_kind) = refl
sure_kept (verdicts.NoMemory offset) = refl
sure_kept (verdicts.Unreadable offset) = refl

-- who refuses for want of memory says nothing of the record, and who is sure of a verdict keeps all
pub sure_refusal : (forgets : Bool) (refusal : Refusal) (offset : ℕ) → is_sure forgets (verdict_of_refusal offset refusal) ≡ true
    → ((Q : Refusal → Type 0) → Q Memory → (forgets ≡ false → Q refusal) → Q refusal)
sure_refusal false refusal offset sure Q none keeps = keeps refl
sure_refusal true Memory offset sure Q none keeps = none
sure_refusal true (Broken number clause) offset sure Q none keeps = absurd cc

-- who is not sure of a refusal was not refused for want of memory
pub unsure_refusal : (forgets : Bool) (refusal : Refusal) (offset : ℕ) → is_sure forgets (verdict_of_refusal offset refusal) ≡ false → refusal ≢ Memory
unsure_refusal forgets (Broken number clause) offset unsure e = cc
unsure_refusal forgets Memory offset unsure e = let never : true ≡ false = unsure in absurd cc

-- of a fault each is sure
pub sure_fault : (forgets : Bool) (kind : FormKind) (offset : ℕ) → is_sure forgets (verdict_of_fault kind offset) ≡ true
sure_fault forgets kinds.Magic offset = refl
sure_fault forgets kinds.Rules offset = refl
sure_fault forgets kinds.Kind offset = refl
sure_fault forgets kinds.Note offset = refl
sure_fault forgets kinds.Length offset = refl
sure_fault forgets kinds.Truncated offset = refl
sure_fault forgets kinds.Memory offset = refl
sure_fault forgets kinds.Read offset = refl

pub no_want : (number : ℕ) (clause : Clause) → Broken number clause ≢ Memory
no_want number clause e = cc

-- what was read so far, where it is known that the watcher had seen none
pub seen_by : {R : Type 0} (remaining : R → Option (List ℕ)) (rules : RuleSet) (left : Option (List ℕ)) (reader : Reader R) (auditor : Auditor) (offset : ℕ) (P : Type 0) (seen : List Record → Type 0)
    → ReadSoFar remaining rules left reader auditor offset (λ records. P → seen records) → P → ReadSoFar remaining rules left reader auditor offset seen
seen_by remaining rules left reader auditor offset P seen s p = record {
  records = s.records;
  bounds = s.bounds;
  follows = s.follows;
  read = s.read;
  place = s.place;
  at = s.at;
  runs = s.runs;
  seen = s.seen p;
}

-- the rules and the ledger of an auditor are those of the records for which it stands
pub held_by : (auditor : Auditor) (held : RuleSet) (ledger : Ledger) → held ≡ rules_of auditor → ledger ≡ auditor.ledger → (rules : RuleSet) (records : List Record) → StandsFor auditor rules records
    → Stands held ledger records
held_by auditor held ledger same own rules records stands =
    subst (λ l. Stands held l records) (sym own) (subst (λ rl. Stands rl auditor.ledger records) (sym (same ∙ stands.0)) stands.1)

module _ {W : Type 0} (saw : W → RuleSet → List Record → Type 0) (refuses : W → RuleSet → List Record → Record → Type 0) where
  -- what is known behind the ledger's records is known behind those for which the auditor stands
  pub explained : (before after : W) (auditor : Auditor) (held : RuleSet) (ledger : Ledger) (entry : Record) → held ≡ rules_of auditor → ledger ≡ auditor.ledger
      → ((records : List Record) → StandsWhole held ledger records → saw before held records → refuses after held records entry) → ledger.forgets ≡ false
      → (rules : RuleSet) (records : List Record) → StandsFor auditor rules records → saw before rules records → refuses after rules records entry
  explained before after auditor held ledger entry same own told keeps rules records stands seen =
      let is : held ≡ rules = same ∙ stands.0 in
      let under = held_by auditor held ledger same own rules records stands in
      subst (λ rl. refuses after rl records entry) is (told records (under, keeps) (subst (λ rl. saw before rl records) (sym is) seen))

  -- the same of a record that the ledger took
  pub seen_taken : (before after : W) (auditor : Auditor) (held : RuleSet) (ledger : Ledger) (entry : Record) → held ≡ rules_of auditor → ledger ≡ auditor.ledger
      → ((records : List Record) → Stands held ledger (records ++ entry ∷ []) → saw before held records → saw after held (records ++ entry ∷ []))
      → (rules : RuleSet) (records : List Record) → StandsFor auditor rules (records ++ entry ∷ []) → saw before rules records → saw after rules (records ++ entry ∷ [])
  seen_taken before after auditor held ledger entry same own told rules records stands seen =
      let is : held ≡ rules = same ∙ stands.0 in
      let under = held_by auditor held ledger same own rules (records ++ entry ∷ []) stands in
      subst (λ rl. saw after rl (records ++ entry ∷ [])) is (told records under (subst (λ rl. saw before rl records) (sym is) seen))

  -- octets with a fault in their head have no record
  headless_seen : (watcher : W) (octets : List ℕ) (fault : FormFault) → saw watcher no_rules [] → head_at octets ≡ Err fault → saw watcher (reading octets).rules (reading octets).records
  headless_seen watcher octets fault unseen e =
      let none = headless octets (ap is_ok e) in
      subst (λ (rules : RuleSet). saw watcher rules (reading octets).records) (sym none.0) (subst (λ (records : List Record). saw watcher no_rules records) (sym none.1) unseen)

  stops_head_seen : (watcher : W) (octets : List ℕ) (form_kind : FormKind) (offset : ℕ) → saw watcher no_rules [] → StopsHead form_kind offset octets → Watched saw refuses watcher octets (verdict_of_fault form_kind offset)
  stops_head_seen watcher octets kinds.Magic offset unseen stops = headless_seen watcher octets (record { offset = offset; kind = kinds.Magic }) unseen stops
  stops_head_seen watcher octets kinds.Rules offset unseen stops = headless_seen watcher octets (record { offset = offset; kind = kinds.Rules }) unseen stops
  stops_head_seen watcher octets kinds.Kind offset unseen stops = headless_seen watcher octets (record { offset = offset; kind = kinds.Kind }) unseen stops
  stops_head_seen watcher octets kinds.Note offset unseen stops = headless_seen watcher octets (record { offset = offset; kind = kinds.Note }) unseen stops
  stops_head_seen watcher octets kinds.Length offset unseen stops = headless_seen watcher octets (record { offset = offset; kind = kinds.Length }) unseen stops
  stops_head_seen watcher octets kinds.Truncated offset unseen stops = headless_seen watcher octets (record { offset = offset; kind = kinds.Truncated }) unseen stops
  stops_head_seen watcher octets kinds.Memory offset unseen stops = tt
  stops_head_seen watcher octets kinds.Read offset unseen stops = tt

  pub head_seen : (known : Option (List ℕ)) (watcher : W) (fault : FormFault) → saw watcher no_rules [] → IfSome known (StopsHead fault.kind fault.offset) → IfSome known (λ octets. Watched saw refuses watcher octets (verdict_of_fault fault.kind fault.offset))
  head_seen None watcher fault unseen stops = tt
  head_seen (Some octets) watcher fault unseen stops = stops_head_seen watcher octets fault.kind fault.offset unseen stops

  -- what holds behind a head holds of the whole
  pub seen_known : (known left : Option (List ℕ)) (rules : RuleSet) (watcher : W) (verdict : Verdict) → IfSome known (λ octets. IsHead octets left rules)
      → IfSome left (λ all. Watched saw refuses watcher (head_text rules ++ all) verdict) → IfSome known (λ octets. Watched saw refuses watcher octets verdict)
  seen_known None left rules watcher verdict head behind = tt
  seen_known (Some octets) left rules watcher verdict head behind =
      let at : IfSome (Some head.0) (λ all. Watched saw refuses watcher (head_text rules ++ all) verdict) = subst (λ l. IfSome l (λ all. Watched saw refuses watcher (head_text rules ++ all) verdict)) head.2 behind in
      subst (λ o. Watched saw refuses watcher o verdict) (sym head.1.spelled) at

  module _ {R : Type 0} (remaining : R → Option (List ℕ)) (rules : RuleSet) (first : Option (List ℕ)) (reader : Reader R) (auditor : Auditor) (offset : ℕ) (before : W)
      (so_far : ReadSoFar remaining rules first reader auditor offset (saw before rules)) where
    saw_all : (octets rest : List ℕ) → octets ≡ text (record { rules = rules; records = so_far.records }) ++ rest → rest ≡ [] → SawAll saw before octets
    saw_all octets rest spelled none =
        let whole : text (record { rules = rules; records = so_far.records }) ++ rest ≡ text (record { rules = rules; records = so_far.records }) =
        ap (λ (t : List ℕ). text (record { rules = rules; records = so_far.records }) ++ t) none ∙ append-nil (text (record { rules = rules; records = so_far.records })) in
        record { trace = record { rules = rules; records = so_far.records }; bounds = so_far.bounds; whole = spelled ∙ whole; seen = so_far.seen }

    ends_by : (tally : Tally) (from left next : Option (List ℕ)) → Consumes from left (records_text so_far.records) → IfSome left (λ octets. IsNext octets next None)
        → IfSome from (λ all. Watched saw refuses before (head_text rules ++ all) (Accepted tally))
    ends_by tally None left next taken read = tt
    ends_by tally (Some all) None next taken read = absurd taken
    ends_by tally (Some all) (Some rest) next taken read =
        saw_all (head_text rules ++ all) rest (begins rules so_far.records offset so_far.bounds so_far.follows.lawful so_far.place all rest taken) read.0

    pub ends_seen : (tally : Tally) (next : Option (List ℕ)) → IfSome (left_of remaining reader) (λ octets. IsNext octets next None)
        → IfSome first (λ all. Watched saw refuses before (head_text rules ++ all) (Accepted tally))
    ends_seen tally next read = ends_by tally first (left_of remaining reader) next so_far.read read

    stopped : (octets rest : List ℕ) (form_kind : FormKind) → octets ≡ text (record { rules = rules; records = so_far.records }) ++ rest → 0 < length rest → record_at rest ≡ Err form_kind → saw before (reading octets).rules (reading octets).records
    stopped octets rest form_kind spelled some e =
        subst (λ (own : RuleSet). saw before own (reading octets).records) (sym (rules_to rules so_far.records octets rest so_far.bounds so_far.follows.lawful spelled))
        (subst (λ (records : List Record). saw before rules records) (sym (reads_to rules so_far.records octets rest so_far.bounds so_far.follows.lawful spelled form_kind some e)) so_far.seen)

    stops_at : (octets rest : List ℕ) (form_kind : FormKind) (at : ℕ) → octets ≡ text (record { rules = rules; records = so_far.records }) ++ rest → StopsNext form_kind rest → Watched saw refuses before octets (verdict_of_fault form_kind at)
    stops_at octets rest kinds.Magic at spelled stops = stopped octets rest kinds.Magic spelled stops.0 stops.1
    stops_at octets rest kinds.Rules at spelled stops = stopped octets rest kinds.Rules spelled stops.0 stops.1
    stops_at octets rest kinds.Kind at spelled stops = stopped octets rest kinds.Kind spelled stops.0 stops.1
    stops_at octets rest kinds.Note at spelled stops = stopped octets rest kinds.Note spelled stops.0 stops.1
    stops_at octets rest kinds.Length at spelled stops = stopped octets rest kinds.Length spelled stops.0 stops.1
    stops_at octets rest kinds.Truncated at spelled stops = stopped octets rest kinds.Truncated spelled stops.0 stops.1
    stops_at octets rest kinds.Memory at spelled stops = tt
    stops_at octets rest kinds.Read at spelled stops = tt

    stops_by : (form_kind : FormKind) (at : ℕ) (from left : Option (List ℕ)) → Consumes from left (records_text so_far.records) → IfSome left (StopsNext form_kind)
        → IfSome from (λ all. Watched saw refuses before (head_text rules ++ all) (verdict_of_fault form_kind at))
    stops_by form_kind at None left taken stops = tt
    stops_by form_kind at (Some all) None taken stops = absurd taken
    stops_by form_kind at (Some all) (Some rest) taken stops =
        stops_at (head_text rules ++ all) rest form_kind at (begins rules so_far.records offset so_far.bounds so_far.follows.lawful so_far.place all rest taken) stops

    pub stops_seen : (fault : FormFault) → (fault_of reader ≡ None → IfSome (left_of remaining reader) (StopsNext fault.kind))
        → IfSome first (λ all. Watched saw refuses before (head_text rules ++ all) (verdict_of_fault fault.kind fault.offset))
    stops_seen fault why = stops_by fault.kind fault.offset first (left_of remaining reader) so_far.read (why so_far.runs)

    module _ (after : W) (entry : Record) (fits : IsRecord entry) where
      saw_refused : (octets rest behind : List ℕ) (refusal : Refusal) → octets ≡ text (record { rules = rules; records = so_far.records }) ++ rest → rest ≡ record_text entry ++ behind
          → IsRefusalBehind rules so_far.records entry refusal → (refusal ≢ Memory → refuses after rules so_far.records entry) → Watched saw refuses after octets (verdict_of_refusal offset refusal)
      saw_refused octets rest behind Memory spelled next why told = tt
      saw_refused octets rest behind (Broken number clause) spelled next why told = record {
        rules = rules;
        before = so_far.records;
        entry = entry;
        rest = behind;
        bounds = longer_bounds rules so_far.records octets rest so_far.bounds so_far.follows.lawful spelled entry behind fits next;
        begins = longer_begins rules so_far.records octets rest so_far.bounds so_far.follows.lawful spelled entry behind fits next;
        place = why.0;
        seen = told (no_want number clause);
      }

      refuses_by : (refusal : Refusal) (from left next : Option (List ℕ)) → Consumes from left (records_text so_far.records) → IfSome left (λ octets. IsNext octets next (Some entry))
          → IsRefusalBehind rules so_far.records entry refusal → (refusal ≢ Memory → refuses after rules so_far.records entry) → IfSome from (λ all. Watched saw refuses after (head_text rules ++ all) (verdict_of_refusal offset refusal))
      refuses_by refusal None left next taken read why told = tt
      refuses_by refusal (Some all) None next taken read why told = absurd taken
      refuses_by refusal (Some all) (Some rest) next taken read why told =
          saw_refused (head_text rules ++ all) rest read.0 refusal (begins rules so_far.records offset so_far.bounds so_far.follows.lawful so_far.place all rest taken) read.1.spelled why told

      pub refuses_seen : (refusal : Refusal) (next : Option (List ℕ)) → IfSome (left_of remaining reader) (λ octets. IsNext octets next (Some entry))
          → IsRefusalBehind rules so_far.records entry refusal → (refusal ≢ Memory → refuses after rules so_far.records entry)
          → IfSome first (λ all. Watched saw refuses after (head_text rules ++ all) (verdict_of_refusal offset refusal))
      refuses_seen refusal next read why told = refuses_by refusal first (left_of remaining reader) next so_far.read read why told
