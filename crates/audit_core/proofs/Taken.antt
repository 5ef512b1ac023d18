-- One record more, taken behind those with which an auditor agrees.
use Rattle.std.proofs.Common.{◌≡◌, refl, sym, ap, subst, ◌∙◌, true, is_some, List, [], ◌∷◌, ◌++◌, length, Option, Some, None, Result, Ok, Err}
use Rattle.std.specs.Prelude.{◌≢◌, IfErr, OnOk}
use Rattle.std.specs.Result.{result_err}
use Rattle.capture_form.specs.declared.records.Record.{Record}
use Rattle.capture_form.specs.Rules.{RuleSet}
use Rattle.trace_events.specs.declared.clause.Clause.{Clause}
use Rattle.trace_events.specs.declared.tally.Tally.{Tally}
use Rattle.trace_events.proofs.Lawful.{history-push, lawful-push}
use Rattle.trace_events.specs.History.{history}
use Rattle.trace_events.specs.Clauses.{first_broken}
use Rattle.trace_events.proofs.Broken.{length-history}
use Rattle.state_ledger.specs.Ledger.{Stands, IsReason, broken_behind}
use Rattle.state_ledger.specs.declared.not_entered.NotEntered.{NotEntered}
use Rattle.state_ledger.specs.declared.not_entered.NotEntered.TheVariants as why
use Rattle.audit_core.specs.declared.auditor.Auditor.{Auditor}
use Rattle.audit_core.specs.declared.verdict.Refusal.{Refusal}
use Rattle.audit_core.specs.Auditor.{Follows, IsBrokenBehind, IsRefusalBehind, refusal_at}

another : (clause : Clause) → why.Broken clause ≢ why.Memory
another clause e = cc

-- what follows from what is said where a record was taken, and where it was refused
pub on_ok : {P Q : Type 0} (result : Result (Unit {0}) Refusal) → OnOk result P → (P → Q) → OnOk result Q
on_ok (Ok done) is f = f is
on_ok (Err refusal) is f = tt

pub if_err : {P Q : Refusal → Type 0} (result : Result (Unit {0}) Refusal) → IfErr result P → ((refusal : Refusal) → P refusal → Q refusal) → IfErr result Q
if_err (Ok done) is f = tt
if_err (Err refusal) is f = f refusal is

module _ (rules : RuleSet) (rs : List Record) (r : Record) where
  -- what is broken behind lawful records is the first that is
  pub broken_first : (clause : Clause) → first_broken rules (history rules rs) ≡ None → broken_behind rules rs r ≡ Some clause
      → first_broken rules (history rules (rs ++ r ∷ [])) ≡ Some (length rs, clause)
  broken_first clause before now =
      ap (first_broken rules) (history-push rules rs r) ∙ rw (before, now) refl ∙ ap (λ n. Some (n, clause)) (length-history rules rs)

  module _ (auditor : Auditor) (follows : Follows auditor rules rs) (held : RuleSet) (same : held ≡ auditor.rules) where
    -- the auditor's own rules
    these : held ≡ rules
    these = same ∙ follows.stands.0

    -- the ledger stands under them
    own : Stands held auditor.ledger rs
    own = subst (λ (rl : RuleSet). Stands rl auditor.ledger rs) (sym these) follows.stands.1

    pub met : (Stands held auditor.ledger rs → broken_behind held rs r ≡ None) → broken_behind rules rs r ≡ None
    met entered = subst (λ (rl : RuleSet). broken_behind rl rs r ≡ None) these (entered own)

    -- it agrees with the longer capture where its ledger stands for that
    pub longer : (next : Auditor) → next.rules ≡ auditor.rules → next.refusal ≡ auditor.refusal → broken_behind rules rs r ≡ None
        → (Stands held auditor.ledger rs → Stands held next.ledger (rs ++ r ∷ [])) → Follows next rules (rs ++ r ∷ [])
    longer next kept runs unbroken entered =
        let stands : Stands rules next.ledger (rs ++ r ∷ []) = subst (λ (rl : RuleSet). Stands rl next.ledger (rs ++ r ∷ [])) these (entered own) in
        record {
          stands = (kept ∙ follows.stands.0, stands);
          counted = stands.1.0;
          lawful = lawful-push rules rs r follows.lawful unbroken;
          runs = runs ∙ follows.runs;
        }

    -- and why the record is refused else
    pub refused : (tally : Tally) → tally ≡ auditor.ledger.tally → (why : NotEntered) → (Stands held auditor.ledger rs → IsReason held rs r why)
        → IsRefusalBehind rules rs r (refusal_at tally.records why)
    refused tally is (why.Broken clause) reason =
        let broken : broken_behind held rs r ≡ Some clause = reason own in
        let number : tally.records ≡ length rs = ap (λ (t : Tally). t.records) (is ∙ follows.counted) ∙ length-history rules rs in
        (number, subst (λ (rl : RuleSet). broken_behind rl rs r ≡ Some clause) these broken)
    refused tally is why.Memory reason = tt

    -- or that it breaks some clause
    pub broken : (tally : Tally) → tally ≡ auditor.ledger.tally → (was : NotEntered) → (was ≢ why.Memory → Stands held auditor.ledger rs → is_some (broken_behind held rs r) ≡ true)
        → IsBrokenBehind rules rs r (refusal_at tally.records was)
    broken tally is (why.Broken clause) told =
        let number : tally.records ≡ length rs = ap (λ (t : Tally). t.records) (is ∙ follows.counted) ∙ length-history rules rs in
        (number, subst (λ (rl : RuleSet). is_some (broken_behind rl rs r) ≡ true) these (told (another clause) own))
    broken tally is why.Memory told = tt

-- an auditor that took a record goes on with the refusal that it met: none
pub goes_with : (old a : Auditor) (entry : Record) (r : Result (Unit {0}) Refusal) (o : Option Refusal) → o ≡ result_err r
    → OnOk r ((rules : RuleSet) (rs : List Record) → Follows old rules rs → Follows a rules (rs ++ entry ∷ []))
    → OnOk r ((rules : RuleSet) (rs : List Record) → Follows old rules rs → Follows (record a { refusal = o }) rules (rs ++ entry ∷ []))
goes_with old a entry (Ok u) o is taken = λ rules rs follows.
    let on = taken rules rs follows in
    record { stands = on.stands; counted = on.counted; lawful = on.lawful; runs = is }
goes_with old a entry (Err e) o is taken = tt
