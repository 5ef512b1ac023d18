-- What is held of a next record, by the tables of those before it.
use Rattle.std.proofs.Common.{◌≡◌, ℕ, List, length, None, Result, Ok, Err, OnOk, IfErr}
use Rattle.capture_form.specs.declared.records.Record.{Record}
use Rattle.capture_form.specs.Rules.{RuleSet}
use Rattle.trace_events.specs.Event.{Event}
use Rattle.trace_events.specs.History.{history}
use Rattle.state_tables.specs.Connections.{IsLawfulNext}
use Rattle.state_answers.specs.Tables.{AreTables, AreWhole, KeepsLast}
use Rattle.state_answers.specs.declared.tables.Tables.{Tables}
use Rattle.state_ledger.specs.Ledger.{IsReason, broken_behind}
use Rattle.state_ledger.specs.NextEvents.{IsHeldAnswer}
use Rattle.state_ledger.specs.declared.not_entered.NotEntered.{NotEntered}
use Rattle.state_ledger.specs.declared.not_entered.NotEntered.TheVariants.{Broken, Memory}
use Rattle.state_ledger.proofs.Entered.{lawful-next}

-- what is said where something is held, and what follows from it
pub on-ok : {P Q : Type 0} (result : Result (Unit {0}) NotEntered) → OnOk result P → (P → Q) → OnOk result Q
on-ok (Ok done) is f = f is
on-ok (Err why) is f = tt

-- the same of why nothing is held
pub on-err : {P Q : NotEntered → Type 0} (result : Result (Unit {0}) NotEntered) → IfErr result P → ((why : NotEntered) → P why → Q why) → IfErr result Q
on-err (Ok done) is f = tt
on-err (Err why) is f = f why is

module _ (rules : RuleSet) (tables : Tables) (number : ℕ) (r : Record) (held : Event) where
  abbrev pub Answers : Result (Unit {0}) NotEntered → Type 0
  Answers result = (records : List Record) → AreTables rules tables (history rules records) → AreWhole tables → number ≡ length (history rules records) → IsHeldAnswer rules (history rules records) r held result

  -- the same, of what is held alone, where what links carried last is kept
  abbrev pub AnswersLast : Result (Unit {0}) NotEntered → Type 0
  AnswersLast result = OnOk result ((records : List Record) → AreTables rules tables (history rules records) → KeepsLast tables.deliveries.let_go.items (history rules records)
      → number ≡ length (history rules records) → IsHeldAnswer rules (history rules records) r held result)

  pub when-lawful : (result : Result (Unit {0}) NotEntered) → AnswersLast result
      → OnOk result ((records : List Record) → AreTables rules tables (history rules records) → KeepsLast tables.deliveries.let_go.items (history rules records) → number ≡ length (history rules records) → IsLawfulNext rules records r held)
  when-lawful (Ok done) answers = λ records are keeps numbered. let answer = answers records are keeps numbered in lawful-next rules records r held answer.0 are.1.1.1.1.1.1.1.0 answer.1
  when-lawful (Err why) answers = tt

  pub when-met : (result : Result (Unit {0}) NotEntered) → AnswersLast result
      → OnOk result ((records : List Record) → AreTables rules tables (history rules records) → KeepsLast tables.deliveries.let_go.items (history rules records) → number ≡ length (history rules records) → broken_behind rules records r ≡ None)
  when-met (Ok done) answers = λ records are keeps numbered. (answers records are keeps numbered).1
  when-met (Err why) answers = tt

  pub when-refused : (result : Result (Unit {0}) NotEntered) → Answers result
      → IfErr result (λ why. (records : List Record) → AreTables rules tables (history rules records) → AreWhole tables → number ≡ length (history rules records) → IsReason rules records r why)
  when-refused (Ok done) answers = tt
  when-refused (Err (Broken clause)) answers = λ records are whole numbered. answers records are whole numbered
  when-refused (Err Memory) answers = λ records are whole numbered. tt
