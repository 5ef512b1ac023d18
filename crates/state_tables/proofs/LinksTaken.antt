-- An event that was taken stands in the tables of links.
use Rattle.std.proofs.Common.{◌≡◌, refl, sym, ap, ◌∙◌, Bool, true, false, List, ◌∷◌, if◌then◌else◌, ◌==◌, eqb-true}
use Rattle.capture_form.specs.Rules.{RuleSet}
use Rattle.trace_events.specs.Event.{Event}
use Rattle.trace_events.proofs.Judged.{AreJudged}
use Rattle.state_tables.specs.Links.{standing_at, standing_behind}
use Rattle.state_tables.specs.LinkTables.{AreLinked, LinksMoved, standing_in}
use Rattle.state_tables.specs.declared.links.Links.{Links}
use Rattle.state_tables.proofs.HandlesOfChannels.{standing-behind, standing-other}

pub taken-linked : (rules : RuleSet) (e : Event) (past : List Event) → AreJudged rules (e ∷ past) → (old new : Links) → LinksMoved e old new → AreLinked old past → AreLinked new (e ∷ past)
taken-linked rules e past are old new moved linked c channel handle = moved c channel handle ∙ by (e.connection == c) refl
  where
    by : (b : Bool) → (e.connection == c) ≡ b
        → (if b then standing_behind channel handle e (standing_in old c channel handle) else standing_in old c channel handle) ≡ standing_at c channel handle (e ∷ past)
    by true own =
        ap (standing_behind channel handle e) (linked c channel handle ∙ ap (λ n. standing_at n channel handle past) (sym (eqb-true e.connection c own)))
        ∙ (sym (standing-behind rules e past are channel handle) ∙ ap (λ n. standing_at n channel handle (e ∷ past)) (eqb-true e.connection c own))
    by false other = linked c channel handle ∙ sym (standing-other rules e past are c channel handle other)
