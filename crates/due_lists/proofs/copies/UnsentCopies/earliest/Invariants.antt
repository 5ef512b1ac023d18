use Rattle.std.proofs.Common.{◌≡◌, List}
use Rattle.trace_events.specs.Event.{Event}
use Rattle.trace_events.specs.Link.{IsLiveLink}
use Rattle.trace_events.specs.View.{link_view}
use Rattle.state_answers.specs.Tables.{TellsOf}
use Rattle.due_lists.specs.ByLink.{count_of}
use Rattle.due_lists.specs.Copies.{HasUnsent}
use Rattle.due_lists.proofs.copies.UnsentCopies.earliest.Given as goal

abbrev pub invariant-loop-completion : goal.invariant-loop-completion
invariant-loop-completion l =
    ((past : List Event) → TellsOf l.rules l.tables past → HasUnsent l.rules l.fn.self past → IsLiveLink (link_view l.link) past → HasUnsent l.rules l.self past)
    × (l.self.unsent.links ≡ l.fn.self.unsent.links)

abbrev pub decreases-loop-completion : goal.decreases-loop-completion
decreases-loop-completion l = count_of l.self.unsent.copies l.link.number
