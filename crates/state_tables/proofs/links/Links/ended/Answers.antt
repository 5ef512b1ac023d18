use Rattle.std.proofs.Common.{ap}
use Rattle.trace_events.specs.History.{history}
use Rattle.trace_events.proofs.Judged.{history-judged}
use Rattle.trace_events.specs.View.{event_view}
use Rattle.state_tables.specs.EndedLinks.{views}
use Rattle.state_tables.proofs.EndedLaw.{none-ending}
use Rattle.state_tables.proofs.links.Links.ended.Goals as goal

pub returns-then-ends_nothing : goal.returns-then-ends_nothing
returns-then-ends_nothing c = λ rules records r is linked.
    none-ending rules (event_view c.args.event.now) (history rules records) ((r, is), history-judged rules records) (views c.new.result.items)
    (c.ends_nothing.ensures c.if-ends_nothing.true) (ap views c.new.ensures.items)
