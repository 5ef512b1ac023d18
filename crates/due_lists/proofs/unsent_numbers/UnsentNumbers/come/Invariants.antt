use Rattle.std.proofs.Common.{◌≡◌, List, Some, true, take}
use Rattle.capture_form.specs.Rules.{RuleSet}
use Rattle.capture_form.specs.declared.records.Record.{Record}
use Rattle.trace_events.specs.Event as law
use Rattle.trace_events.specs.Due.{is_unsent}
use Rattle.trace_events.specs.History.{history}
use Rattle.trace_events.specs.Incoming.{incoming_at}
use Rattle.trace_events.specs.Link.{IsLiveLink}
use Rattle.trace_events.specs.View.{event_view, incoming_view}
use Rattle.state_tables.specs.ConsumerLinks.{link_in}
use Rattle.state_tables.specs.Copies.{AreCopies}
use Rattle.due_lists.specs.UnsentNumbers.{AreWith, IsIn, IsKeptBut, receives}
use Rattle.due_lists.proofs.unsent_numbers.UnsentNumbers.come.Given as goal

abbrev pub invariant-loop-receiver : goal.invariant-loop-receiver
invariant-loop-receiver l =
    ((rules : RuleSet) (records : List Record) → AreCopies rules l.copies (history rules records) → (m : law.Link) →
    receives (take l.receiver-index l.receivers) m.number ≡ true → link_in l.links m.number ≡ Some m → IsLiveLink m (history rules records) →
    incoming_at (incoming_view l.delivery).number (history rules records) ≡ Some (incoming_view l.delivery) → is_unsent rules (incoming_view l.delivery) m (history rules records) ≡ true →
    IsIn l.self m.session.number m.number (event_view l.event).number (incoming_view l.delivery).number)
    × AreWith (event_view l.event).number (incoming_view l.delivery).number l.fn.self l.self
    × IsKeptBut (event_view l.event).number l.fn.self l.self
