-- The copies of what the last event completes.
use Rattle.std.specs.Prelude.{ℕ, Bool, false, List, [], ◌∷◌}
use Rattle.capture_form.specs.Rules.{RuleSet}
use Rattle.trace_events.specs.Event.{Event, Link}
use Rattle.trace_events.specs.Due.{is_copied_to, makes_due}

-- the multicast delivery that the last event completes is for the link
abbrev pub copied_at : RuleSet → Link → List Event → Bool
copied_at rules l [] = false
copied_at rules l (e ∷ past) = is_copied_to rules l e past

-- a copy of it is due to the link, to which so many were due before
abbrev pub due_at : RuleSet → Link → List Event → ℕ → Bool
due_at rules l [] due = false
due_at rules l (e ∷ past) due = makes_due rules l e past due
