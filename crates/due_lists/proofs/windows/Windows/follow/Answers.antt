use Rattle.std.proofs.Common.{refl}
use Rattle.trace_events.specs.History.{history}
use Rattle.trace_events.proofs.Judged.{history-judged}
use Rattle.trace_events.specs.View.{event_view}
use Rattle.due_lists.specs.Candidates.{value_of}
use Rattle.due_lists.proofs.WindowsFollowed.{on_ok, have-lowered}
use Rattle.due_lists.proofs.windows.Windows.follow.Goals as goal

pub returns : goal.returns
returns c = on_ok c.insert.result
    (λ put. λ rules records r next are has.
    have-lowered rules (event_view c.args.event.now) (history rules records) ((r, next.0), history-judged rules records)
    (value_of c.args.self.now.sessions) (value_of c.insert.new.self) c.in-Some.session (c.in-Some.ensures.stands c.in-Some.session refl) put
    (c.in-Some.ensures.known rules records r next are) has)
    c.insert.ensures
