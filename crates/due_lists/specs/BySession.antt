-- Which links of consumers stand with their sessions.
use Rattle.std.specs.Prelude.{◌≡◌, ℕ, Bool, false, nat_eq}
use Rattle.number_groups.specs.Groups.{is_member}
use Rattle.due_lists.specs.declared.by_session.BySession.{BySession}

-- the link of this number stands among those of the session
abbrev pub stands : BySession → ℕ → ℕ → Bool
stands links session n = is_member nat_eq links.numbers session n

abbrev pub HasNone : BySession → Type 0
HasNone links = (session n : ℕ) → stands links session n ≡ false
