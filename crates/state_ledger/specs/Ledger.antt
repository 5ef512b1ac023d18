-- What the tables and the tally stand for, and why a record is not taken behind others (own rules).
use Rattle.std.specs.Prelude.{◌≡◌, false, List, Option, Some, ⊤}
use Rattle.capture_form.specs.declared.records.Record.{Record}
use Rattle.capture_form.specs.Rules.{RuleSet}
use Rattle.trace_events.specs.Event.{Event}
use Rattle.trace_events.specs.History.{judge, history}
use Rattle.trace_events.specs.declared.clause.Clause.{Clause}
use Rattle.trace_events.specs.Clauses.{broken_clause}
use Rattle.trace_events.specs.Verdict.{tally_of}
use Rattle.state_answers.specs.Tables.{AreTables, AreWhole, KeepsLast}
use Rattle.state_ledger.specs.declared.ledger.Ledger.{Ledger}
use Rattle.state_ledger.specs.declared.not_entered.NotEntered.{NotEntered}
use Rattle.state_ledger.specs.declared.not_entered.NotEntered.TheVariants.{Broken, Memory}

-- what the ledger keeps: all, unless it forgets, and of what may be let go what the last delivery of each live link of a consumer carries
abbrev pub KeepsEnough : Ledger → List Event → Type 0
KeepsEnough ledger past = (ledger.forgets ≡ false → AreWhole ledger.tables) × KeepsLast ledger.tables.deliveries.let_go.items past

-- the tables have what the law says of these records, judged by these rules, each of which meets the clauses, and keep enough of it;
-- and the tally is theirs
abbrev pub Stands : RuleSet → Ledger → List Record → Type 0
Stands rules ledger records =
    AreTables rules ledger.tables (history rules records) × ((ledger.tally ≡ tally_of (history rules records)) × KeepsEnough ledger (history rules records))

-- the same of one that forgets nothing
abbrev pub StandsWhole : RuleSet → Ledger → List Record → Type 0
StandsWhole rules ledger records = Stands rules ledger records × (ledger.forgets ≡ false)

-- the first clause that a record breaks behind others
abbrev pub broken_behind : RuleSet → List Record → Record → Option Clause
broken_behind rules records entry = let past = history rules records in broken_clause rules (judge rules past entry) past

-- why a record is not taken: this is the first clause that it breaks; want of memory says nothing of it
abbrev pub IsReason : RuleSet → List Record → Record → NotEntered → Type 0
IsReason rules records entry (Broken clause) = broken_behind rules records entry ≡ Some clause
IsReason rules records entry Memory = ⊤
