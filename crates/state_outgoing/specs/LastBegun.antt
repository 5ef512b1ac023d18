-- The last delivery to a client that began on a link, and those that carry a delivery from a client (own rules).
use Rattle.std.specs.Prelude.{ℕ, Bool, not, List, ◌∷◌, Option, Some, option_map, map, find, ◌==◌, if◌then◌else◌}
use Rattle.trace_events.specs.Words.{is_some_and, where_passes}
use Rattle.trace_events.specs.Event.{Event, Outgoing}
use Rattle.trace_events.specs.Outgoing.{outgoing_begun, outgoing_deliveries, names}
use Rattle.trace_events.specs.Kept.{carriers}
use Rattle.state_tables.specs.LetGo.{names_let_go}

-- ---- on the link of a number

abbrev pub last_on : ℕ → List Event → Option Outgoing
last_on link past = find (λ j. j.link.number == link) (outgoing_deliveries past)

-- its number, unless what it carries was let go
abbrev pub last_number : List (ℕ × Unit {0}) → ℕ → List Event → Option ℕ
last_number gone link past = option_map (λ j. j.number) (where_passes (λ j. not (names_let_go gone j.note)) (last_on link past))

-- what the last one carries was let go
abbrev pub is_last_let_go : List (ℕ × Unit {0}) → ℕ → List Event → Bool
is_last_let_go gone link past = is_some_and (last_on link past) (λ j. names_let_go gone j.note)

-- the last one carries the delivery from a client of number n
abbrev pub is_last_carrying : ℕ → ℕ → List Event → Bool
is_last_carrying n link past = is_some_and (last_on link past) (λ j. names n j.note)

-- the event begins a delivery on the link
abbrev pub begins_on : Event → ℕ → Bool
begins_on e link = is_some_and (outgoing_begun e) (λ j. j.link.number == link)

-- ---- of those that carry the delivery of a number

-- the last one
abbrev pub carrier : ℕ → List Event → Option Outgoing
carrier n past = find (λ j. names n j.note) (outgoing_deliveries past)

abbrev pub carrier_number : ℕ → List Event → Option ℕ
carrier_number n past = option_map (λ j. j.number) (carrier n past)

-- all of them, the last one first
abbrev pub carrier_numbers : ℕ → List Event → List ℕ
carrier_numbers n past = map (λ j. j.number) (carriers n past)

-- the event begins a delivery that carries it
abbrev pub begins_carrier : Event → ℕ → Bool
begins_carrier e n = is_some_and (outgoing_begun e) (λ j. names n j.note)

-- ---- what an event makes of these numbers

abbrev pub on_link_next : Event → ℕ → Option ℕ → Option ℕ
on_link_next e link earlier = if begins_on e link then Some e.number else earlier

abbrev pub carriers_next : Event → ℕ → List ℕ → List ℕ
carriers_next e n earlier = if begins_carrier e n then e.number ∷ earlier else earlier
