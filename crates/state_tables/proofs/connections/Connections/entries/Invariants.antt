use Rattle.std.proofs.Common.{◌≡◌, ◌+◌, length, take}
use Rattle.std.specs.List.{sum_by}
use Rattle.state_tables.specs.Entries.{capped, entries_of_connection}
use Rattle.state_tables.proofs.connections.Connections.entries.Given as goal

abbrev pub invariant-loop-connection : goal.invariant-loop-connection
invariant-loop-connection l = l.count ≡ capped (length l.self.over + sum_by entries_of_connection (take l.connection-index l.connection-items))
