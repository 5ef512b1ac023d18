use Rattle.std.proofs.Common.{take}
use Rattle.address_table.specs.Links.{IsCount}
use Rattle.address_table.specs.History.{events_of}
use Rattle.address_table.proofs.history.table_after.Given as goal

abbrev pub invariant-loop-event : goal.invariant-loop-event
invariant-loop-event l = IsCount l.table (events_of (take l.event-index l.events))
