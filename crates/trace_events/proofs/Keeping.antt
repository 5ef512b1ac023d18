-- All that a lawful capture keeps, together.
use Rattle.std.proofs.Common.{◌≡◌, List, None}
use Rattle.capture_form.specs.declared.records.Record.{Record}
use Rattle.capture_form.specs.Rules.{RuleSet}
use Rattle.trace_events.specs.History.{history}
use Rattle.trace_events.specs.Clauses.{first_broken}
use Rattle.trace_events.specs.Kept.{Keeps}
use Rattle.trace_events.proofs.Within.{lawful-stood-within, lawful-of-row}
use Rattle.trace_events.proofs.Carried.{lawful-addressed, lawful-carried}
use Rattle.trace_events.proofs.ReachesOne.{lawful-reaches-one}
use Rattle.trace_events.proofs.OneOutcome.{lawful-told-once}

pub lawful-keeps : (rules : RuleSet) (rs : List Record) → first_broken rules (history rules rs) ≡ None → Keeps rules (history rules rs)
lawful-keeps rules rs lawful = record {
  within = lawful-stood-within rules rs lawful;
  addressed = lawful-addressed rules rs lawful;
  carried = lawful-carried rules rs lawful;
  one = lawful-reaches-one rules rs lawful;
  outcomes = lawful-of-row rules rs lawful;
  once = lawful-told-once rules rs lawful;
}
