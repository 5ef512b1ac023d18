-- The fields of a described list by their place.
use Rattle.std.specs.Prelude.{ℕ, zero, suc, List, [], ◌∷◌}
use Rattle.amqp_types.specs.Part.{Null, Seen}

-- a field that is missing at the end counts as null (part 1 of the standard, section 1.4)
abbrev pub missing : Seen
missing = record { octets = []; part = Null }

-- the next field
abbrev pub first : List Seen → Seen
first [] = missing
first (p ∷ ps) = p

-- the fields behind it
abbrev pub others : List Seen → List Seen
others [] = []
others (p ∷ ps) = ps

-- the field of a place, counted from 0
abbrev pub field_at : ℕ → List Seen → Seen
field_at zero ps = first ps
field_at (suc n) ps = field_at n (others ps)
