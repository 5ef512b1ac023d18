use Rattle.std.proofs.Common.{◌≡◌, ◌++◌, ℕ, List, length}
use Rattle.trace_events.specs.View.{Events, event_view}
use Rattle.state_outgoing.specs.SentTables.{sent_in}
use Rattle.state_tables.specs.LinkTables.{AreLinked}
use Rattle.due_lists.specs.AddressCounts.{CountsMore}
use Rattle.due_lists.specs.Picks.{decided_among}
use Rattle.due_lists.proofs.picks.Picks.decide.Given as goal

abbrev pub invariant-loop-number : goal.invariant-loop-number
invariant-loop-number l =
    (gone : List ℕ) × (l.initial.left ≡ l.left ++ gone)
    × ((history : Events) → AreLinked l.before.links.now history →
    CountsMore (decided_among (event_view l.event) history (sent_in l.before.sent.now) gone) l.fn.self.table l.self.table)

abbrev pub decreases-loop-number : goal.decreases-loop-number
decreases-loop-number l = length l.left
