use Rattle.std.proofs.Common.{◌≡◌, take, ◌+◌, length}
use Rattle.std.specs.List.{sum_by}
use Rattle.state_tables.specs.Entries.{capped, entries_unanswered}
use Rattle.state_tables.proofs.on_channels.OnChannels.entries.Given as goal

abbrev pub invariant-loop-unanswered : goal.invariant-loop-unanswered
invariant-loop-unanswered l = l.count ≡ capped (length l.self.sessions.entries + sum_by entries_unanswered (take l.unanswered-index l.unanswered-items))
