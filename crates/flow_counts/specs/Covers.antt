-- Which deliveries a disposition speaks of (part 2 of the standard, section 2.7.6), counted over the deliveries of one
-- session alone that were sent to its client, the newest event first.
use Rattle.std.specs.Prelude.{ℕ, ◌^◌, ◌==◌, Bool, ◌&&◌, List, [], ◌∷◌, filter, nat_lt, nat_le, if◌then◌else◌}
use Rattle.flow_counts.specs.Serial.{serial_sub}
use Rattle.flow_counts.specs.declared.events.SentEvent.{SentEvent}
use Rattle.flow_counts.specs.declared.events.SentEvent.TheVariants.{Added, Removed}

-- the delivery-id stands from the first up to the last, once round; a last id that stands before the first covers none
-- (RFC 1982)
abbrev pub covers : ℕ → ℕ → ℕ → Bool
covers first last id = nat_le (serial_sub id first) (serial_sub last first) && nat_lt (serial_sub last first) (2 ^ 31)

-- with this id at the number, in the order of numbers
abbrev pub put : ℕ → ℕ → List (ℕ × ℕ) → List (ℕ × ℕ)
put number id [] = (number, id) ∷ []
put number id (entry ∷ entries) =
    if nat_lt number entry.0 then (number, id) ∷ entry ∷ entries
    else (if number == entry.0 then (number, id) ∷ entries else entry ∷ put number id entries)

-- without the entry of the number
abbrev pub without : ℕ → List (ℕ × ℕ) → List (ℕ × ℕ)
without number [] = []
without number (entry ∷ entries) = if number == entry.0 then entries else entry ∷ without number entries

-- the numbers of the deliveries that are not over, each with its id, in the order of the numbers
abbrev pub outstanding : List SentEvent → List (ℕ × ℕ)
outstanding [] = []
outstanding (Added number id ∷ past) = put number id (outstanding past)
outstanding (Removed number ∷ past) = without number (outstanding past)

-- those of them that a disposition with this range covers
abbrev pub covered : ℕ → ℕ → List (ℕ × ℕ) → List (ℕ × ℕ)
covered first last entries = filter (λ entry. covers first last entry.1) entries
