use Rattle.std.proofs.Common.{ap, ◌∙◌, ◌&&◌, ◌||◌, not}
use Rattle.trace_events.specs.History.{history}
use Rattle.trace_events.proofs.Judged.{history-judged}
use Rattle.trace_events.specs.View.{event_view}
use Rattle.state_tables.specs.EndedLinks.{views}
use Rattle.state_tables.specs.Consumers.{has_link_of, opens_for}
use Rattle.state_tables.proofs.ConsumerSteps.{consumer-next}
use Rattle.state_tables.proofs.consumers.Consumers.take.Goals as goal

pub returns-clause-kept : goal.returns-clause-kept
returns-clause-kept c = λ rules records r is ended are address n.
    let e = event_view c.args.event.now in
    let links = views c.args.ended.now in
    c.end.ensures address n
    ∙ (ap (λ b. b && not (has_link_of links address n)) (c.in_ok-open.ensures.opened address n ∙ ap (λ b. opens_for address n e || b) (are address n))
    ∙ consumer-next rules e (history rules records) ((r, is), history-judged rules records) links ended address n)
