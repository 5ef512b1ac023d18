-- What an auditor has come to: for which capture it stands, or at which refusal it stopped.
use Rattle.std.specs.Prelude.{◌≡◌, ℕ, Bool, true, false, List, length, Option, Some, None, is_some, ⊤}
use Rattle.capture_form.specs.declared.records.Record.{Record}
use Rattle.capture_form.specs.Rules.{RuleSet}
use Rattle.trace_events.specs.declared.tally.Tally.{Tally}
use Rattle.trace_events.specs.History.{history}
use Rattle.trace_events.specs.Clauses.{first_broken}
use Rattle.trace_events.specs.Verdict.{tally_of}
use Rattle.state_answers.specs.Tables.{entries_of}
use Rattle.state_ledger.specs.Ledger.{Stands, broken_behind}
use Rattle.state_ledger.specs.declared.not_entered.NotEntered.{NotEntered}
use Rattle.state_ledger.specs.declared.not_entered.NotEntered.TheVariants as why
use Rattle.audit_core.specs.declared.auditor.Auditor.{Auditor}
use Rattle.audit_core.specs.declared.verdict.Refusal.{Refusal}
use Rattle.audit_core.specs.declared.verdict.Refusal.TheVariants.{Broken, Memory}

-- ---- what is kept: all that these contracts know of the inside of an auditor

-- what it keeps stands for these records, judged by these rules
abbrev pub StandsFor : Auditor → RuleSet → List Record → Type 0
StandsFor auditor rules records = (auditor.rules ≡ rules) × Stands rules auditor.ledger records

-- the rules by which it judges
abbrev pub rules_of : Auditor → RuleSet
rules_of auditor = auditor.rules

-- what the records that it took hold
abbrev pub tally_by : Auditor → Tally
tally_by auditor = auditor.ledger.tally

-- how many entries it has
abbrev pub entries_by : Auditor → ℕ
entries_by auditor = entries_of auditor.ledger.tables

-- it lets go of what a lawful record cannot name any more
abbrev pub forgets_by : Auditor → Bool
forgets_by auditor = auditor.ledger.forgets

-- the refusal at which it stopped
abbrev pub refusal_of : Auditor → Option Refusal
refusal_of auditor = auditor.refusal

-- ---- what that means

-- an auditor follows the capture of these rules and records: it took each of them, and each meets the clauses
pub record Follows (auditor : Auditor) (rules : RuleSet) (records : List Record) : Type 0 where
  pub stands : StandsFor auditor rules records
  pub counted : tally_by auditor ≡ tally_of (history rules records)
  pub lawful : first_broken rules (history rules records) ≡ None
  pub runs : refusal_of auditor ≡ None

-- it agrees with the capture: it follows it, and keeps all
pub record Agrees (auditor : Auditor) (rules : RuleSet) (records : List Record) : Type 0 where
  pub follows : Follows auditor rules records
  pub keeps : forgets_by auditor ≡ false

-- it answers this refusal for good
abbrev pub Stopped : Auditor → Refusal → Type 0
Stopped auditor refusal = refusal_of auditor ≡ Some refusal

-- why a record is refused behind others: it is the first that breaks a clause, and this is the first that it breaks;
-- want of memory says nothing of it
abbrev pub IsRefusalBehind : RuleSet → List Record → Record → Refusal → Type 0
IsRefusalBehind rules records entry (Broken number clause) = (number ≡ length records) × (broken_behind rules records entry ≡ Some clause)
IsRefusalBehind rules records entry Memory = ⊤

-- the same of one that forgets: the record is the first that breaks a clause, this one or another
abbrev pub IsBrokenBehind : RuleSet → List Record → Record → Refusal → Type 0
IsBrokenBehind rules records entry (Broken number clause) = (number ≡ length records) × (is_some (broken_behind rules records entry) ≡ true)
IsBrokenBehind rules records entry Memory = ⊤

-- why the record of a number is refused
abbrev pub refusal_at : ℕ → NotEntered → Refusal
refusal_at number (why.Broken clause) = Broken number clause
refusal_at number why.Memory = Memory
