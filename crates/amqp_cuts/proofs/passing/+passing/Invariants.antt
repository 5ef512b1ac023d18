use Rattle.std.proofs.Common.{◌≡◌, ◌+◌, ◌-◌, ◌*◌, ◌≤◌}
use Rattle.amqp_cuts.specs.Passing.{past_items, past_item}
use Rattle.amqp_cuts.proofs.passing.+passing.Given as goal

abbrev pub decreases-pass_data : goal.decreases-pass_data
decreases-pass_data g l = 8 * l.levels

abbrev pub decreases-pass_value : goal.decreases-pass_value
decreases-pass_value g l = 8 * l.levels + 1

abbrev pub decreases-pass_element : goal.decreases-pass_element
decreases-pass_element g l = 8 * l.levels + 1

abbrev pub decreases-pass_item : goal.decreases-pass_item
decreases-pass_item g l = 8 * l.levels + 2

abbrev pub decreases-pass_items : goal.decreases-pass_items
decreases-pass_items g l = 8 * l.levels + 3

abbrev pub decreases-pass_nested : goal.decreases-pass_nested
decreases-pass_nested g l = 8 * l.levels + 4

abbrev pub decreases-read_constructor : goal.decreases-read_constructor
decreases-read_constructor g l = 8 * l.levels + 2

abbrev pub decreases-pass_elements : goal.decreases-pass_elements
decreases-pass_elements g l = 8 * l.levels + 4

abbrev pub decreases-pass_array : goal.decreases-pass_array
decreases-pass_array g l = 8 * l.levels + 5

abbrev pub decreases-pass_described : goal.decreases-pass_described
decreases-pass_described g l = 8 * l.levels + 2

abbrev pub invariant-pass_items-loop : goal.invariant-pass_items-loop
invariant-pass_items-loop g l = (l.at ≤ l.place) × (l.place ≤ l.to)
    × (past_items (past_item (g.C.Cuts.octets l.payload) l.levels l.form) (l.count - l.counter) l.place l.to
    ≡ past_items (past_item (g.C.Cuts.octets l.payload) l.levels l.form) l.count l.at l.to)

abbrev pub decreases-read_tagged : goal.decreases-read_tagged
decreases-read_tagged g l = 8 * l.levels + 3
