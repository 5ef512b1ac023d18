use Rattle.trace_events.specs.History.{history}
use Rattle.trace_events.proofs.Judged.{history-judged}
use Rattle.trace_events.specs.View.{event_view}
use Rattle.state_tables.proofs.LinksTaken.{taken-linked}
use Rattle.state_tables.proofs.links.Links.take.Goals as goal

pub returns-clause-kept : goal.returns-clause-kept
returns-clause-kept c = λ rules records r is linked.
    taken-linked rules (event_view c.args.event.now) (history rules records) ((r, is), history-judged rules records) c.args.self.now c.put.new.self c.in_ok-put.ensures.taken linked
