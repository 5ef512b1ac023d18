-- Which records are asked for, by the records so far, the newest first (own format).
use Rattle.std.specs.Prelude.{◌≡◌, ℕ, ◌==◌, Bool, ◌||◌, List, [], ◌∷◌, ◌++◌, Option, Some, None, IfSome, IsTrue, if◌then◌else◌, option_and_then, option_map}
use Rattle.std.specs.List.{list_any}
use Rattle.capture_view.specs.declared.choice.Choice.{Choice}
use Rattle.capture_view.specs.Choice.{IsInRange, IsOnConnection}
use Rattle.capture_view.specs.Told.{LinkText}
use Rattle.capture_view.specs.Named.{key_of, link_named}
use Rattle.capture_view.specs.Viewed.{Viewed}
use Rattle.capture_chart.specs.Outcomes.{outcome_told}
use Rattle.capture_chart.specs.Shown.{Shown, shown_of}

-- the name of the link that a record names, by the records up to it
abbrev pub link_name : List Viewed → Viewed → Option (List ℕ)
link_name now view = option_map (λ (link : LinkText). link.name) (option_and_then (link_named now) (key_of view))

-- a record meets each test but that of a delivery, by the records up to it
pub record Meets (choice : Choice) (now : List Viewed) (view : Viewed) : Type 0 where
  pub range : IsInRange choice view.number
  pub connection : IsOnConnection choice view.connection
  pub link : IfSome choice.link (λ asked. link_name now view ≡ Some asked.now)

-- a record that is asked for meets these tests; where no delivery is asked for, each that meets them is asked for
pub record IsAnswer (choice : Choice) (now : List Viewed) (view : Viewed) (is_asked : Bool) : Type 0 where
  pub met : IsTrue is_asked → Meets choice now view
  pub all : choice.delivery ≡ None → Meets choice now view → IsTrue is_asked

-- a record has an arrow that is asked for, or whose number is one of these
abbrev pub is_drawn : List ℕ → ℕ → Bool → Bool
is_drawn also number is_asked = is_asked || list_any (λ other. other == number) also

-- arrows are those of the records that are asked for, and of those with these numbers, in order, each once, and with the record in
-- which the delivery began whose outcome it tells, by all the records in front of it
abbrev pub AreAsked : Choice → List ℕ → List Viewed → List Shown → Type 0
AreAsked choice also [] arrows = arrows ≡ []
AreAsked choice also (view ∷ past) arrows =
    (is_asked : Bool) × (before : List Shown) × IsAnswer choice (view ∷ past) view is_asked × AreAsked choice also past before
    × (arrows ≡ (if is_drawn also view.number is_asked then before ++ shown_of view (outcome_told past view) ∷ [] else before))
