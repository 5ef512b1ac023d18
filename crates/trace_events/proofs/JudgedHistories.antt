-- Judged events are the history of some records, so what the law says of captures holds of them.
use Rattle.std.proofs.Common.{◌≡◌, refl, sym, ap, subst, ◌∙◌, List, [], ◌∷◌, ◌++◌, None}
use Rattle.capture_form.specs.declared.records.Record.{Record}
use Rattle.capture_form.specs.Rules.{RuleSet}
use Rattle.trace_events.specs.Event.{Event}
use Rattle.trace_events.specs.History.{judge, history, IsHistory}
use Rattle.trace_events.proofs.Judged.{AreJudged}
use Rattle.trace_events.specs.Clauses.{first_broken}
use Rattle.trace_events.specs.Kept.{Keeps}
use Rattle.trace_events.proofs.Lawful.{history-push}
use Rattle.trace_events.proofs.Keeping.{lawful-keeps}

pub judged-history : (rules : RuleSet) (past : List Event) → AreJudged rules past → IsHistory rules past
judged-history rules [] are = ([], refl)
judged-history rules (e ∷ past) ((r, is), are) =
    let h = judged-history rules past are in
    (h.0 ++ r ∷ [], ap (λ (x : Event). x ∷ past) is ∙ (ap (λ (xs : List Event). judge rules xs r ∷ xs) h.1 ∙ sym (history-push rules h.0 r)))

-- what holds of each capture holds of judged events
pub of_histories : (rules : RuleSet) (P : List Event → Type 0) → ((rs : List Record) → P (history rules rs)) → (past : List Event) → AreJudged rules past → P past
of_histories rules P each past are = let h = judged-history rules past are in subst P (sym h.1) (each h.0)

-- what holds of each lawful capture holds of judged events that are lawful
pub of_captures : (rules : RuleSet) (P : List Event → Type 0) → ((rs : List Record) → first_broken rules (history rules rs) ≡ None → P (history rules rs))
    → (past : List Event) → AreJudged rules past → first_broken rules past ≡ None → P past
of_captures rules P each past are lawful =
    let h = judged-history rules past are in
    subst P (sym h.1) (each h.0 (subst (λ (xs : List Event). first_broken rules xs ≡ None) h.1 lawful))

pub judged-keeps : (rules : RuleSet) (past : List Event) → AreJudged rules past → first_broken rules past ≡ None → Keeps rules past
judged-keeps rules past are lawful = of_captures rules (Keeps rules) (lawful-keeps rules) past are lawful
