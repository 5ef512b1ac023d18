-- Taking the records of a capture, one after the other.
use Rattle.std.proofs.Common.{◌≡◌, refl, sym, ap, subst, ◌∙◌, ℕ, ◌+◌, ◌<◌, ◌≤◌, List, [], ◌∷◌, ◌++◌, length, take, drop, get_or, Some, Ok, arith, add-one}
use Rattle.std.proofs.Math.Seq.{take-suc}
use Rattle.std.proofs.lemmas.List.{length-take-le, take-append-drop, take_all}
use Rattle.capture_form.specs.declared.records.Record.{Record}
use Rattle.capture_form.specs.Rules.{RuleSet}
use Rattle.capture_form.specs.Text.{Trace}
use Rattle.trace_events.specs.declared.clause.Clause.{Clause}
use Rattle.trace_events.specs.declared.tally.Tally.{Tally}
use Rattle.trace_events.specs.Clauses.{first_broken}
use Rattle.trace_events.specs.Verdict.{tallied_or}
use Rattle.trace_events.proofs.Lawful.{broken-stays}
use Rattle.trace_events.specs.History.{history}
use Rattle.trace_events.proofs.Broken.{length-history}
use Rattle.audit_core.specs.declared.auditor.Auditor.{Auditor}
use Rattle.audit_core.specs.declared.verdict.Refusal.{Refusal}
use Rattle.audit_core.specs.declared.verdict.Refusal.TheVariants.{Broken, Memory}
use Rattle.state_ledger.specs.Ledger.{broken_behind}
use Rattle.audit_core.specs.Auditor.{Follows, IsRefusalBehind, tally_by}
use Rattle.audit_core.specs.Verdict.{tally_in, as_answer, answer_of}
use Rattle.audit_core.specs.Stops.{StopsAudit, stop_of}
use Rattle.audit_core.proofs.Taken.{broken_first}

-- the first records and one more
pub pushed : (rs : List Record) (i : ℕ) (entry d : Record) → i < length rs → entry ≡ get_or rs i d → take i rs ++ entry ∷ [] ≡ take (i + 1) rs
pushed rs i entry d lt is =
    let at : take (i + 1) rs ≡ take i rs ++ get_or rs i d ∷ [] = rw (add-one, take-suc rs i d lt) refl in
    ap (λ (e : Record). take i rs ++ e ∷ []) is ∙ sym at

-- an auditor that took all of them has the answer
pub accepted : (capture : Trace) (auditor : Auditor) → Follows auditor capture.rules capture.records → answer_of capture ≡ Ok (tally_by auditor)
accepted capture auditor follows = rw (follows.lawful, follows.counted) refl

module _ (capture : Trace) (i : ℕ) (auditor : Auditor) (entry d : Record) (lt : i < length capture.records) (is : entry ≡ get_or capture.records i d)
    (follows : Follows auditor capture.rules (take i capture.records)) where
  found : (clause : Clause) → broken_behind capture.rules (take i capture.records) entry ≡ Some clause → first_broken capture.rules (history capture.rules capture.records) ≡ Some (length (take i capture.records), clause)
  found clause broken =
      let first : first_broken capture.rules (history capture.rules (take (i + 1) capture.records)) ≡ Some (length (take i capture.records), clause) =
      ap (λ es. first_broken capture.rules (history capture.rules es)) (sym (pushed capture.records i entry d lt is)) ∙ broken_first capture.rules (take i capture.records) entry clause follows.lawful broken in
      ap (λ es. first_broken capture.rules (history capture.rules es)) (sym (take-append-drop (i + 1) capture.records))
      ∙ broken-stays capture.rules (take (i + 1) capture.records) (drop (i + 1) capture.records) (length (take i capture.records), clause) first

  stops_at : (refusal : Refusal) → IsRefusalBehind capture.rules (take i capture.records) entry refusal → StopsAudit capture (stop_of i refusal)
  stops_at (Broken number clause) why =
      ap (λ o. as_answer (tallied_or (tally_in capture) o)) (found clause why.1 ∙ ap (λ n. Some (n, clause)) (sym why.0))
  stops_at Memory why = (lt, follows.lawful)

  -- a record that is refused
  pub refused : (refusal : Refusal) → ((rs : RuleSet) (es : List Record) → Follows auditor rs es → IsRefusalBehind rs es entry refusal) → StopsAudit capture (stop_of i refusal)
  refused refusal why = stops_at refusal (why capture.rules (take i capture.records) follows)

-- so many were taken
pub so_many : (capture : Trace) (i : ℕ) (auditor : Auditor) → i < length capture.records → Follows auditor capture.rules (take i capture.records) → (tally_by auditor).records ≡ i
so_many capture i auditor lt follows =
    ap (λ (t : Tally). t.records) follows.counted ∙ length-history capture.rules (take i capture.records) ∙ length-take-le i capture.records (omega (arith, lt))

-- all were taken
pub took_all : (capture : Trace) (i : ℕ) (auditor : Auditor) → length capture.records ≤ i → Follows auditor capture.rules (take i capture.records) → Follows auditor capture.rules capture.records
took_all capture i auditor ge follows = subst (λ rs. Follows auditor capture.rules rs) (take_all i capture.records ge) follows
