use Rattle.std.proofs.Common.{◌∙◌}
use Rattle.trace_events.specs.History.{history}
use Rattle.trace_events.proofs.Judged.{history-judged}
use Rattle.trace_events.specs.View.{link_view}
use Rattle.state_outgoing.proofs.UnsettledCount.{count-table}
use Rattle.state_outgoing.proofs.deliveries.SentDeliveries.unsettled_count.Goals as goal

pub returns : goal.returns
returns c = λ rules records is.
    c.count.ensures.count
    ∙ count-table rules (history rules records) (history-judged rules records) c.args.self.now is (link_view c.args.link.now) c.of_link.result.now c.of_link.ensures c.count.ensures.distinct
