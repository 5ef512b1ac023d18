-- The inputs of a router's capture, and which one it takes next (own rules).
use Rattle.std.specs.Prelude.{ℕ, Bool, true, false, ◌&&◌, not, List, filter, ◌==◌}
use Rattle.std.specs.List.{list_any}
use Rattle.capture_form.specs.declared.records.Record.{Record}
use Rattle.capture_form.specs.declared.records.What.{What}
use Rattle.capture_form.specs.declared.records.What.TheVariants as whats
use Rattle.route_items.specs.declared.item.Item.{Item}
use Rattle.route_items.specs.declared.item.Item.TheVariants.{Opened, In, Broken, Lost}

-- ---- what happened

abbrev pub is_output : What → Bool
is_output (whats.Out frame) = true
is_output other = false

abbrev pub is_opening : What → Bool
is_opening whats.Opened = true
is_opening other = false

abbrev pub is_losing : What → Bool
is_losing whats.Lost = true
is_losing other = false

abbrev pub is_breaking : What → Bool
is_breaking whats.Broken = true
is_breaking other = false

-- ---- the inputs, in order

abbrev pub inputs : List Record → List Record
inputs records = filter (λ r. not (is_output r.what)) records

-- such a thing happened on the connection
abbrev pub has_one : (What → Bool) → ℕ → List Record → Bool
has_one test c records = list_any (λ r. test r.what && (r.connection == c)) records

-- ---- which item may come next

-- the connection was opened, and is not lost
abbrev pub is_attended : ℕ → List Record → Bool
is_attended c records = has_one is_opening c records && not (has_one is_losing c records)

-- and what it sends is still frames
abbrev pub is_running : ℕ → List Record → Bool
is_running c records = is_attended c records && not (has_one is_breaking c records)

-- a connection is opened once, and used only from then on until it is lost; nothing comes behind octets that are no
-- frames but its loss
abbrev pub may_come : Item → List Record → Bool
may_come (Opened c) records = not (has_one is_opening c records)
may_come (In c frame) records = is_running c records
may_come (Broken c) records = is_running c records
may_come (Lost c) records = is_attended c records
