-- Records that are asked for, and records that are not.
use Rattle.std.proofs.Common.{◌≡◌, ◌≤◌, ℕ, Bor, false, true, List, None, Some, refl, arith}
use Rattle.capture_view.specs.declared.choice.Choice.{Choice}
use Rattle.capture_view.specs.declared.choice.Traits.{Traits}
use Rattle.capture_view.specs.Choice.{IsAskedFor, IsInRange, IsOnConnection}

-- records 3 to 5 of connection 1
abbrev asked : Choice
asked = record { from = Some 3; to = Some 5; connection = Some 1; link = None; delivery = None }

abbrev of_delivery : Choice
of_delivery = record { from = None; to = None; connection = None; link = None; delivery = Some 3 }

abbrev named : Bor (List ℕ) → Choice
named name = record { from = None; to = None; connection = None; link = Some name; delivery = None }

abbrev traits : ℕ → ℕ → Traits
traits number connection = record { number = number; connection = connection; link = None; is_of_delivery = false }

first_asked : IsAskedFor asked (traits 3 1)
first_asked = record { range = record { from = omega arith; to = omega arith }; connection = refl; link = tt; delivery = tt }

last_asked : IsInRange asked 5
last_asked = record { from = omega arith; to = omega arith }

too_early : IsAskedFor asked (traits 2 1) → ⊥
too_early is = let from : 3 ≤ 2 = is.range.from in omega arith

too_late : IsAskedFor asked (traits 6 1) → ⊥
too_late is = let to : 6 ≤ 5 = is.range.to in omega arith

elsewhere : IsAskedFor asked (traits 4 2) → ⊥
elsewhere is = let on : ◌≡◌ {A = ℕ} 1 2 = is.connection in omega arith

without_link : (name : Bor (List ℕ)) → IsAskedFor (named name) (traits 0 0) → ⊥
without_link name is = is.link

about_another : IsAskedFor of_delivery (traits 3 0) → ⊥
about_another is = let no : false ≡ true = is.delivery in absurd cc
