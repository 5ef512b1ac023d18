-- What is kept of the records that an audit takes (own rules).
use Rattle.std.specs.Prelude.{List, []}
use Rattle.capture_form.specs.declared.records.Record.{Record}
use Rattle.capture_form.specs.Rules.{RuleSet}
use Rattle.trace_events.specs.History.{history}
use Rattle.credit_levels.specs.declared.pick.Pick.{Pick}
use Rattle.credit_levels.specs.Levels.{AreOf}
use Rattle.credit_levels.specs.declared.watching.Watching.{Watching}

-- what had the levels of no records, of a link that is picked, has those of these records, judged by these rules, of the same link
abbrev pub HasTaken : Watching → Watching → RuleSet → List Record → Type 0
HasTaken first watching rules records = (pick : Pick) → AreOf pick rules first.levels [] → AreOf pick rules watching.levels (history rules records)
