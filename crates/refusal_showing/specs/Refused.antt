-- What the reason is worth of a record that a ledger does not take.
use Rattle.std.specs.Prelude.{◌≡◌, List, is_some, true}
use Rattle.capture_form.specs.Rules.{RuleSet}
use Rattle.capture_form.specs.declared.records.Record.{Record}
use Rattle.trace_events.specs.History.{history, judge_unopened, moment_of}
use Rattle.state_incoming.specs.Held.{held_at}
use Rattle.refusal_facts.specs.Facts.{IsReasonOf}
use Rattle.refusal_facts.specs.declared.reason.Reason.{Reason}

-- it is the reason of the record's event, by the events of those that the ledger took; of a delivery that is not kept any more
-- it says nothing
abbrev pub IsReasonBehind : RuleSet → List Record → Record → Reason → Type 0
IsReasonBehind rules records entry reason =
    let past = history rules records in
    IsReasonOf rules (λ n. is_some (held_at rules n past) ≡ true) (judge_unopened rules past entry.connection (moment_of entry.what) entry.note) past
    reason
