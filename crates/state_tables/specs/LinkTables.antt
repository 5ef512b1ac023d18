-- What the tables of links stand for.
use Rattle.std.specs.Prelude.{◌≡◌, ℕ, List, option_map, unwrap_or, nat_eq, ◌==◌, if◌then◌else◌}
use Rattle.indexmap.specs.IndexMap.{get}
use Rattle.trace_events.specs.Event.{Event}
use Rattle.state_tables.specs.Links.{HandleState, nothing, standing_at, standing_behind, standing_here, standing_next}
use Rattle.state_tables.specs.declared.handles.Handles.{Handles}
use Rattle.state_tables.specs.declared.channels.Channels.{Channels}
use Rattle.state_tables.specs.declared.links.Links.{Links}

-- what the entry of a session has of a handle
abbrev pub standing_on : Handles → ℕ → HandleState
standing_on x handle = unwrap_or (get nat_eq x.entries handle) nothing

-- what the entry of a connection has of it
abbrev pub standing_of : Channels → ℕ → ℕ → HandleState
standing_of x channel handle = unwrap_or (option_map (λ (y : Handles). standing_on y handle) (get nat_eq x.entries channel)) nothing

-- what the table has of it
abbrev pub standing_in : Links → ℕ → ℕ → ℕ → HandleState
standing_in table c channel handle = unwrap_or (option_map (λ (x : Channels). standing_of x channel handle) (get nat_eq table.entries c)) nothing

-- no link stands there, nor anything to be answered
abbrev pub IsEmpty : Handles → Type 0
IsEmpty x = (handle : ℕ) → standing_on x handle ≡ nothing

abbrev pub AreEmpty : Channels → Type 0
AreEmpty x = (channel handle : ℕ) → standing_of x channel handle ≡ nothing

-- two entries say the same
abbrev pub IsSame : Handles → Handles → Type 0
IsSame earlier later = (handle : ℕ) → standing_on later handle ≡ standing_on earlier handle

abbrev pub AreSame : Channels → Channels → Type 0
AreSame earlier later = (channel handle : ℕ) → standing_of later channel handle ≡ standing_of earlier channel handle

-- an event stands on the session
abbrev pub IsMoved : Event → Handles → Handles → Type 0
IsMoved e earlier later = (handle : ℕ) → standing_on later handle ≡ standing_next handle e (standing_on earlier handle)

-- an event stands on this channel
abbrev pub AreMovedOn : ℕ → Event → Channels → Channels → Type 0
AreMovedOn channel e earlier later = (n handle : ℕ) → standing_of later n handle
    ≡ (if channel == n then standing_here handle e (standing_of earlier n handle) else standing_of earlier n handle)

-- an event of the connection
abbrev pub AreMoved : Event → Channels → Channels → Type 0
AreMoved e earlier later = (channel handle : ℕ) → standing_of later channel handle ≡ standing_behind channel handle e (standing_of earlier channel handle)

-- the tables say what the law says of these events
abbrev pub AreLinked : Links → List Event → Type 0
AreLinked table past = (c channel handle : ℕ) → standing_in table c channel handle ≡ standing_at c channel handle past

-- an event was taken
abbrev pub LinksMoved : Event → Links → Links → Type 0
LinksMoved e earlier later = (c channel handle : ℕ) → standing_in later c channel handle
    ≡ (if e.connection == c then standing_behind channel handle e (standing_in earlier c channel handle) else standing_in earlier c channel handle)

-- the tables say the same
abbrev pub LinksSame : Links → Links → Type 0
LinksSame earlier later = (c channel handle : ℕ) → standing_in later c channel handle ≡ standing_in earlier c channel handle
