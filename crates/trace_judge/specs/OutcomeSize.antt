-- How many octets the frame has that tells an outcome.
use Rattle.std.specs.Prelude.{ℕ, ◌+◌, List, length, Option, Some, None, ◌==◌, if◌then◌else◌}
use Rattle.amqp_types.specs.Writing.{fits_octet}

-- of a uint (part 1, section 1.6.5)
abbrev pub uint_size : ℕ → ℕ
uint_size n = if n == 0 then 1 else if fits_octet n then 2 else 5

-- of a list, by the octets of its items (part 1, section 1.6.22)
abbrev pub list_size : ℕ → ℕ
list_size body = if fits_octet (body + 1) then 3 + body else 9 + body

abbrev pub state_size : Option (List ℕ) → ℕ
state_size None = 0
state_size (Some octets) = length octets

-- of the frame: 8 of its header, 3 of the descriptor, and the list of role, first, last, settled and state (part 2,
-- sections 2.3.1 and 2.7.6)
abbrev pub outcome_frame_size : ℕ → ℕ → ℕ
outcome_frame_size id state = 11 + list_size (3 + uint_size id + state)
