-- What judging the next record of a capture answers (own rules).
use Rattle.std.specs.Prelude.{◌≡◌, List, Some, None, Result, Ok, Err, true}
use Rattle.capture_form.specs.declared.records.Record.{Record}
use Rattle.capture_form.specs.Rules.{RuleSet}
use Rattle.trace_events.specs.declared.clause.Clause.{Clause}
use Rattle.trace_events.specs.Clauses.{broken_clause}
use Rattle.trace_events.specs.Event.{Event}
use Rattle.trace_events.specs.History.{moment_of, judge, judge_unopened}
use Rattle.state_ledger.specs.HeldEvents.{has_parts, parts_of}
use Rattle.state_ledger.specs.declared.not_entered.NotEntered.{NotEntered}
use Rattle.state_ledger.specs.declared.not_entered.NotEntered.TheVariants.{Broken, Memory}

-- the event of the record, before what it opens is filled in
abbrev pub unopened : RuleSet → List Event → Record → Event
unopened rules past r = judge_unopened rules past r.connection (moment_of r.what) r.note

-- the event of the record, which breaks no clause; or the first clause that it breaks
abbrev pub IsAnswer : RuleSet → List Event → Record → Result Event Clause → Type 0
IsAnswer rules past r (Ok e) = (e ≡ judge rules past r) × (broken_clause rules (judge rules past r) past ≡ None)
IsAnswer rules past r (Err clause) = broken_clause rules (judge rules past r) past ≡ Some clause

-- this event is held, and it is that of the record; or this is why not: memory is wanted where the record breaks no clause and there
-- is something to hold, a link or a delivery
abbrev pub IsHeldAnswer : RuleSet → List Event → Record → Event → Result (Unit {0}) NotEntered → Type 0
IsHeldAnswer rules past r held (Ok done) = IsAnswer rules past r (Ok held)
IsHeldAnswer rules past r held (Err (Broken clause)) = IsAnswer rules past r (Err clause)
IsHeldAnswer rules past r held (Err Memory) = (has_parts (parts_of (judge rules past r)) ≡ true) × (broken_clause rules (judge rules past r) past ≡ None)
