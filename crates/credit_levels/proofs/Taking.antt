-- One record more of an audit.
use Rattle.std.proofs.Common.{◌≡◌, sym, ap, subst, ◌∙◌, ℕ, ◌-◌, List, [], ◌∷◌, ◌++◌, length, arith}
use Rattle.capture_form.specs.declared.records.Record.{Record}
use Rattle.capture_form.specs.Rules.{RuleSet}
use Rattle.trace_events.specs.Event.{Event}
use Rattle.trace_events.specs.History.{history, judge}
use Rattle.trace_events.specs.declared.tally.Tally.{Tally}
use Rattle.trace_events.specs.Verdict.{tally_of}
use Rattle.trace_events.proofs.Lawful.{history-push}
use Rattle.credit_levels.specs.declared.levels.Levels.{Levels}
use Rattle.credit_levels.specs.declared.pick.Pick.{Pick}
use Rattle.credit_levels.specs.Levels.{AreOf}

-- what was handed on stands for the events up to the record, and so the levels are those of them
pub takes_more : (rules : RuleSet) (old new : Levels) (Past : List Event → Type 0) (records : List Record) (entry : Record) (tally : Tally) (number : ℕ)
    → tally ≡ tally_of (history rules (records ++ entry ∷ [])) → number ≡ tally.records - 1 → Past (history rules (records ++ entry ∷ []))
    → ((pick : Pick) (past : List Event) → number ≡ length past → Past (judge rules past entry ∷ past) → AreOf pick rules old past → AreOf pick rules new (judge rules past entry ∷ past))
    → (pick : Pick) → AreOf pick rules old (history rules records) → AreOf pick rules new (history rules (records ++ entry ∷ []))
takes_more rules old new Past records entry tally number counted is stands takes pick are =
    let past = history rules records in
    let push : history rules (records ++ entry ∷ []) ≡ judge rules past entry ∷ past = history-push rules records entry in
    let many : tally.records ≡ length (judge rules past entry ∷ past) = ap (λ (t : Tally). t.records) counted ∙ ap length push in
    subst (AreOf pick rules new) (sym push) (takes pick past (omega (arith, is, many)) (subst Past push stands) are)
