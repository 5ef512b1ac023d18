use Rattle.std.proofs.Common.{◌↔◌, drop}
use Rattle.trace_events.specs.Kept.{AreFirst}
use Rattle.core_exchange.specs.Seats.{outs_on}
use Rattle.core_exchange.proofs.comparing.begin_outs.Given as goal

abbrev pub invariant-loop-entry : goal.invariant-loop-entry
invariant-loop-entry l =
    AreFirst l.frames (outs_on l.conn l.records) ↔ AreFirst l.rest (outs_on l.conn (drop l.entry-index l.records))
