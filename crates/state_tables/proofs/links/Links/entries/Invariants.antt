use Rattle.std.proofs.Common.{◌≡◌, take}
use Rattle.std.specs.List.{sum_by}
use Rattle.state_tables.specs.Entries.{capped, entries_of_channels}
use Rattle.state_tables.proofs.links.Links.entries.Given as goal

abbrev pub invariant-loop-connection : goal.invariant-loop-connection
invariant-loop-connection l = l.count ≡ capped (sum_by entries_of_channels (take l.connection-index l.connection-items))
