use Rattle.std.proofs.Common.{◌+◌, ◌*◌}
use Rattle.amqp_types.specs.Form.{form}
use Rattle.amqp_types.proofs.Loop.{GoesOver}
use Rattle.amqp_types.proofs.reading.+reader.Given as goal

abbrev pub decreases-read_data : goal.decreases-read_data
decreases-read_data l = 8 * l.levels

abbrev pub decreases-read_value : goal.decreases-read_value
decreases-read_value l = 8 * l.levels + 1

abbrev pub decreases-read_constructor : goal.decreases-read_constructor
decreases-read_constructor l = 8 * l.levels + 1

abbrev pub decreases-read_tagged : goal.decreases-read_tagged
decreases-read_tagged l = 8 * l.levels + 2

abbrev pub decreases-pass_data : goal.decreases-pass_data
decreases-pass_data l = 8 * l.levels

abbrev pub decreases-pass_coded : goal.decreases-pass_coded
decreases-pass_coded l = 8 * l.levels + 1

abbrev pub decreases-pass_value : goal.decreases-pass_value
decreases-pass_value l = 8 * l.levels + 2

abbrev pub decreases-pass_element : goal.decreases-pass_element
decreases-pass_element l = 8 * l.levels + 2

abbrev pub decreases-pass_front : goal.decreases-pass_front
decreases-pass_front l = 8 * l.levels + 3

abbrev pub decreases-pass_item : goal.decreases-pass_item
decreases-pass_item l = 8 * l.levels + 4

abbrev pub decreases-read_items : goal.decreases-read_items
decreases-read_items l = 8 * l.levels + 5

abbrev pub decreases-read_nested : goal.decreases-read_nested
decreases-read_nested l = 8 * l.levels + 7

abbrev pub decreases-read_values : goal.decreases-read_values
decreases-read_values l = 8 * l.levels + 6

abbrev pub decreases-read_elements : goal.decreases-read_elements
decreases-read_elements l = 8 * l.levels + 6

abbrev pub decreases-read_array : goal.decreases-read_array
decreases-read_array l = 8 * l.levels + 7

abbrev pub decreases-read_described : goal.decreases-read_described
decreases-read_described l = 8 * l.levels + 6

abbrev pub invariant-read_items-loop : goal.invariant-read_items-loop
invariant-read_items-loop l = GoesOver l.levels (form l.constructor) l.count l.at l.bytes l.counter l.place l.rest
