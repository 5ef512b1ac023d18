use Rattle.trace_events.specs.History.{history}
use Rattle.trace_events.proofs.Judged.{history-judged}
use Rattle.trace_events.specs.View.{event_view}
use Rattle.state_tables.proofs.KeptSteps.{taken-seen, taken-kept}
use Rattle.state_tables.proofs.connections.Connections.take.Goals as goal

pub returns-clause-seen : goal.returns-clause-seen
returns-clause-seen c = λ past seen. taken-seen (event_view c.args.event.now) past c.args.self.now c.put.new.self c.in_ok-put.ensures.taken seen

pub returns-clause-kept : goal.returns-clause-kept
returns-clause-kept c = λ rules records r next kept.
    taken-kept rules (event_view c.args.event.now) (history rules records) ((r, next.0), history-judged rules records) next.1 c.args.self.now c.put.new.self c.in_ok-put.ensures.taken kept
