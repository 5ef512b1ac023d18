-- Which records are asked for (own format).
use Rattle.std.specs.Prelude.{◌≡◌, ℕ, ◌≤◌, List, Option, Some, None, IfSome, IsTrue}
use Rattle.std.specs.Borrow.{Bor}
use Rattle.capture_view.specs.declared.choice.Choice.{Choice}
use Rattle.capture_view.specs.declared.choice.Traits.{Traits}

-- the number is neither before the first that is asked for nor behind the last
pub record IsInRange (choice : Choice) (number : ℕ) : Type 0 where
  pub from : IfSome choice.from (λ from. from ≤ number)
  pub to : IfSome choice.to (λ to. number ≤ to)

-- the connection is the one that is asked for
abbrev pub IsOnConnection : Choice → ℕ → Type 0
IsOnConnection choice connection = IfSome choice.connection (λ asked. asked ≡ connection)

-- there is a link, of this name
abbrev pub IsNamed : List ℕ → Option (Bor (List ℕ)) → Type 0
IsNamed asked None = ⊥
IsNamed asked (Some name) = asked ≡ name.now

-- the link has the name that is asked for
abbrev pub NamesLink : Choice → Option (Bor (List ℕ)) → Type 0
NamesLink choice link = IfSome choice.link (λ asked. IsNamed asked.now link)

-- each test that is asked for holds
pub record IsAskedFor (choice : Choice) (traits : Traits) : Type 0 where
  pub range : IsInRange choice traits.number
  pub connection : IsOnConnection choice traits.connection
  pub link : NamesLink choice traits.link
  pub delivery : IfSome choice.delivery (λ delivery. IsTrue traits.is_of_delivery)
