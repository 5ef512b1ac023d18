use Rattle.std.proofs.Common.{◌≡◌, take}
use Rattle.std.specs.List.{sum_by}
use Rattle.state_tables.specs.Entries.{capped, entries_of_handle}
use Rattle.state_tables.proofs.handles.Handles.entries.Given as goal

abbrev pub invariant-loop-handle : goal.invariant-loop-handle
invariant-loop-handle l = l.count ≡ capped (sum_by entries_of_handle (take l.handle-index l.handle-items))
