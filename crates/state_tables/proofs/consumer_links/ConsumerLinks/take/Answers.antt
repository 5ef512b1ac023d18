use Rattle.std.proofs.Common.{ap, ◌∙◌}
use Rattle.trace_events.specs.History.{history}
use Rattle.trace_events.proofs.Judged.{history-judged}
use Rattle.trace_events.specs.View.{event_view}
use Rattle.state_tables.specs.EndedLinks.{views}
use Rattle.state_tables.specs.ConsumerLinks.{with_opened, without}
use Rattle.state_tables.proofs.ConsumerLinkSteps.{links-next}
use Rattle.state_tables.proofs.consumer_links.ConsumerLinks.take.Goals as goal

pub returns-clause-kept : goal.returns-clause-kept
returns-clause-kept c = λ rules records r is ended are n.
    let e = event_view c.args.event.now in
    let links = views c.args.ended.now in
    c.end.ensures n
    ∙ (ap (without links n) (c.in_ok-open.ensures.opened n ∙ ap (with_opened n e) (are n))
    ∙ links-next rules e (history rules records) ((r, is), history-judged rules records) links ended n)
