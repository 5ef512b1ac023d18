-- The values that an iterator has not given yet.
use Rattle.std.specs.Prelude.{List}
use Rattle.amqp_types.specs.declared.sequence.Items.{Items}
use Rattle.amqp_types.specs.Part.{Seen}
use Rattle.amqp_types.specs.View as values

-- the fields that are still to be taken
abbrev pub fields_left : Items → List Seen
fields_left items = values.items_left items
