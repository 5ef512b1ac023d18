use Rattle.std.proofs.Common.{◌≡◌, take}
use Rattle.std.specs.List.{sum_by}
use Rattle.state_tables.specs.Entries.{capped, entries_of_session}
use Rattle.state_tables.proofs.channels.Channels.entries.Given as goal

abbrev pub invariant-loop-session : goal.invariant-loop-session
invariant-loop-session l = l.count ≡ capped (sum_by entries_of_session (take l.session-index l.session-items))
