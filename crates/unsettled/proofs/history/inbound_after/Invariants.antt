use Rattle.std.proofs.Common.{take}
use Rattle.unsettled.specs.Deliveries.{IsCount}
use Rattle.unsettled.specs.History.{parts_of}
use Rattle.unsettled.proofs.history.inbound_after.Given as goal

abbrev pub invariant-loop-event : goal.invariant-loop-event
invariant-loop-event l = IsCount l.inbound (parts_of (take l.event-index l.events))
