-- The table of what became of each connection (own rules).
use Rattle.std.specs.Prelude.{◌≡◌, ℕ, true, false, ◌&&◌, not, List, unwrap_or, if◌then◌else◌, nat_eq, ◌==◌}
use Rattle.indexmap.specs.IndexMap.{get}
use Rattle.number_runs.specs.Runs.{value_in}
use Rattle.capture_form.specs.declared.records.Record.{Record}
use Rattle.route_items.specs.declared.item.Item.{Item}
use Rattle.route_items.specs.declared.item.Item.TheVariants.{Opened, In, Broken, Lost}
use Rattle.route_items.specs.declared.connection_states.ConnectionState.{ConnectionState}
use Rattle.route_items.specs.declared.connection_states.ConnectionStates.{ConnectionStates}
use Rattle.route_items.specs.Inputs.{is_opening, is_losing, is_breaking, has_one}

-- nothing happened yet
abbrev pub no_life : ConnectionState
no_life = record { is_opened = false; is_lost = false; is_broken = false }

-- what the table has of a connection without an entry: what its run says
abbrev pub life_over : ConnectionStates → ℕ → ConnectionState
life_over connections c = unwrap_or (value_in connections.over c) no_life

-- what it has of a connection
abbrev pub life_in : ConnectionStates → ℕ → ConnectionState
life_in connections c = unwrap_or (get nat_eq connections.entries c) (life_over connections c)

-- this became of the connection, and of the others what had become of them
abbrev pub IsNow : ℕ → ConnectionState → ConnectionStates → ConnectionStates → Type 0
IsNow c life old new = (n : ℕ) → life_in new n ≡ (if c == n then life else life_in old n)

-- what is of a connection once the item came to it; that what it sent was broken is forgotten with its loss
abbrev pub life_after : ConnectionState → Item → ConnectionState
life_after life (Opened c) = record life { is_opened = true }
life_after life (In c frame) = life
life_after life (Broken c) = record life { is_broken = not life.is_lost }
life_after life (Lost c) = record life { is_lost = true; is_broken = false }

-- what these records say of it
abbrev pub life_of : ℕ → List Record → ConnectionState
life_of c records = record { is_opened = has_one is_opening c records; is_lost = has_one is_losing c records; is_broken = not (has_one is_losing c records) && has_one is_breaking c records }

abbrev pub AreStates : ConnectionStates → List Record → Type 0
AreStates connections records = (c : ℕ) → life_in connections c ≡ life_of c records
