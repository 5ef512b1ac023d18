-- Of any octets exactly one verdict holds: the one that their reading gives.
use Rattle.std.proofs.Common.{◌≡◌, refl, sym, ap, ◌∙◌, ℕ, ◌+◌, List, [], ◌++◌, length, take, Bool, true, false, Option, Some, None, arith}
use Rattle.std.specs.Prelude.{is_ok}
use Rattle.std.proofs.lemmas.List.{length-take-le}
use Rattle.capture_form.specs.declared.fault.FormFault.{FormFault}
use Rattle.capture_form.specs.declared.fault.FormKind.{FormKind}
use Rattle.capture_form.specs.declared.records.Record.{Record}
use Rattle.capture_form.specs.Frame.{AreOctets}
use Rattle.capture_form.specs.Text.{IsCapture, Trace, text}
use Rattle.capture_form.specs.Reading.{Reads, reading, head_at}
use Rattle.capture_form.specs.Laws.{whole_reads, first_records, trace_of}
use Rattle.capture_form.proofs.ReadingLaws.{reads_on, reads_whole, stands_in_front, spells_whole, headless}
use Rattle.trace_events.specs.declared.clause.Clause.{Clause}
use Rattle.trace_events.specs.History.{history}
use Rattle.trace_events.specs.Clauses.{first_broken}
use Rattle.trace_events.proofs.Lawful.{broken-stays}
use Rattle.trace_events.proofs.Broken.{broken_at}
use Rattle.audit_core.specs.declared.verdict.Verdict.{Verdict}
use Rattle.audit_core.specs.declared.verdict.Verdict.TheVariants.{Accepted, Refused, Malformed, NoMemory, Unreadable}
use Rattle.trace_events.specs.declared.tally.Tally.{Tally}
use Rattle.audit_core.specs.Verdict.{broken_in, tally_in, Accepts, AcceptsUnlessRefused, Answers, Refuses, Holds}

abbrev verdict_by : Trace → Option (ℕ × Clause) → Option FormFault → Verdict
verdict_by trace (Some broken) fault = Refused broken.0 broken.1
verdict_by trace None (Some fault) = Malformed fault.offset fault.kind
verdict_by trace None None = Accepted (tally_in trace)

-- the verdict of what was read
verdict_at : Reads → Verdict
verdict_at reads = verdict_by (trace_of reads) (broken_in (trace_of reads)) reads.fault

-- more records change nothing of what is broken
pub broken-more : (capture all : Trace) (more : List Record) (x : ℕ × Clause) → all.rules ≡ capture.rules → all.records ≡ capture.records ++ more
    → broken_in capture ≡ Some x → broken_in all ≡ Some x
broken-more capture all more x rules records broken =
    ap (λ rs. first_broken rs (history rs all.records)) rules ∙ ap (λ qs. first_broken capture.rules (history capture.rules qs)) records
    ∙ broken-stays capture.rules capture.records more x broken

refuses_at : (octets : List ℕ) (number : ℕ) (clause : Clause) (has : Bool) → is_ok (head_at octets) ≡ has → AreOctets octets
    → broken_in (trace_of (reading octets)) ≡ Some (number, clause) → Refuses octets number clause
refuses_at octets number clause true is fits e =
    let b = broken_at (reading octets).rules [] (reading octets).records number clause refl e in
    let s = stands_in_front octets (b.place + 1) fits is in
    let last : length (take (b.place + 1) (reading octets).records) ≡ number + 1 = length-take-le (b.place + 1) (reading octets).records (omega (arith, b.within)) ∙ omega (arith, b.counted) in
    record { trace = first_records (b.place + 1) (reading octets); rest = s.front.0; bounds = s.capture; begins = s.front.1; last = last; broken = b.broken }
refuses_at octets number clause false is fits e =
    let none : broken_in (trace_of (reading octets)) ≡ None = ap (λ rs. first_broken (reading octets).rules (history (reading octets).rules rs)) (headless octets is).1 in
    absurd cc

-- a broken record in front of the first fault
pub refuses : (octets : List ℕ) (number : ℕ) (clause : Clause) → AreOctets octets → broken_in (trace_of (reading octets)) ≡ Some (number, clause) → Refuses octets number clause
refuses octets number clause fits e = refuses_at octets number clause (is_ok (head_at octets)) refl fits e

-- no fault, and no broken record
pub accepts : (octets : List ℕ) → AreOctets octets → (reading octets).fault ≡ None → broken_in (trace_of (reading octets)) ≡ None
    → Accepts octets (tally_in (trace_of (reading octets)))
accepts octets fits none lawful =
    let s = spells_whole octets fits none in
    record { trace = trace_of (reading octets); bounds = s.0; whole = s.1; lawful = lawful; counted = refl }

some_at : (octets : List ℕ) (broken : Option (ℕ × Clause)) (fault : Option FormFault) → AreOctets octets → broken_in (trace_of (reading octets)) ≡ broken
    → (reading octets).fault ≡ fault → (verdict : Verdict) × Holds octets verdict
some_at octets (Some x) fault fits is fault_is = (Refused x.0 x.1, refuses octets x.0 x.1 fits is)
some_at octets None (Some fault) fits is fault_is = (Malformed fault.offset fault.kind, record { fault = fault_is; lawful = is })
some_at octets None None fits is fault_is = (Accepted (tally_in (trace_of (reading octets))), accepts octets fits fault_is is)

-- some verdict holds
pub some_verdict : (octets : List ℕ) → AreOctets octets → (verdict : Verdict) × Holds octets verdict
some_verdict octets fits = some_at octets (broken_in (trace_of (reading octets))) (reading octets).fault fits refl refl

-- what holds is the verdict of what was read
is_verdict : (octets : List ℕ) (verdict : Verdict) → Holds octets verdict → verdict ≡ verdict_at (reading octets)
unfolding verdict_at
is_verdict octets (Accepted tally) a =
    let read : reading octets ≡ whole_reads a.trace = ap reading a.whole ∙ reads_whole a.trace a.bounds in
    let found : verdict_at (whole_reads a.trace) ≡ Accepted (tally_in a.trace) = rw a.lawful refl in
    ap Accepted a.counted ∙ sym (ap verdict_at read ∙ found)
is_verdict octets (Refused number clause) r =
    let on = reads_on r.trace r.rest r.bounds in
    let rules : (reading octets).rules ≡ r.trace.rules = ap (λ o. (reading o).rules) r.begins ∙ on.rules in
    let read : (reading octets).records ≡ r.trace.records ++ on.records.0 = ap (λ o. (reading o).records) r.begins ∙ on.records.1 in
    let broken : broken_in (trace_of (reading octets)) ≡ Some (number, clause) = broken-more r.trace (trace_of (reading octets)) on.records.0 (number, clause) rules read r.broken in
    rw broken refl
is_verdict octets (Malformed offset form_kind) m = rw (m.lawful, m.fault) refl
is_verdict octets (NoMemory offset) h = absurd h
is_verdict octets (Unreadable offset) h = absurd h

-- and no other one
pub only_verdict : (octets : List ℕ) (one other : Verdict) → Holds octets one → Holds octets other → one ≡ other
only_verdict octets one other h k = is_verdict octets one h ∙ sym (is_verdict octets other k)

-- the text of a lawful capture is accepted
accepts_lawful : (trace : Trace) → IsCapture trace → broken_in trace ≡ None → Accepts (text trace) (tally_in trace)
accepts_lawful trace bounds lawful = record { trace = trace; bounds = bounds; whole = refl; lawful = lawful; counted = refl }

same_tally : (one other : Tally) → Accepted one ≡ Accepted other → one ≡ other
same_tally one other is = cc

refused_accepted : (number : ℕ) (clause : Clause) (tally : Tally) → Refused number clause ≡ Accepted tally → ⊥
refused_accepted number clause tally is = cc

malformed_accepted : (offset : ℕ) (kind : FormKind) (tally : Tally) → Malformed offset kind ≡ Accepted tally → ⊥
malformed_accepted offset kind tally is = cc

-- so any answer on it is acceptance, unless memory was refused
pub accepted_text : (trace : Trace) (verdict : Verdict) → IsCapture trace → broken_in trace ≡ None → Answers (text trace) verdict → AcceptsUnlessRefused (tally_in trace) verdict
accepted_text trace (Accepted tally) bounds lawful answers =
    same_tally tally (tally_in trace) (only_verdict (text trace) (Accepted tally) (Accepted (tally_in trace)) answers (accepts_lawful trace bounds lawful))
accepted_text trace (Refused number clause) bounds lawful answers =
    absurd (refused_accepted number clause (tally_in trace) (only_verdict (text trace) (Refused number clause) (Accepted (tally_in trace)) answers (accepts_lawful trace bounds lawful)))
accepted_text trace (Malformed offset form_kind) bounds lawful answers =
    absurd (malformed_accepted offset form_kind (tally_in trace) (only_verdict (text trace) (Malformed offset form_kind) (Accepted (tally_in trace)) answers (accepts_lawful trace bounds lawful)))
accepted_text trace (NoMemory offset) bounds lawful answers = tt
accepted_text trace (Unreadable offset) bounds lawful answers = absurd answers
