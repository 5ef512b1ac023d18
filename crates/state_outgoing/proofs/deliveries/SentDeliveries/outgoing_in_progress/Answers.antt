use Rattle.std.proofs.Common.{◌∙◌}
use Rattle.trace_events.specs.History.{history}
use Rattle.trace_events.proofs.Judged.{history-judged}
use Rattle.trace_events.specs.View.{link_view}
use Rattle.state_outgoing.proofs.AnswersKnown.{progress-table}
use Rattle.state_outgoing.proofs.deliveries.SentDeliveries.outgoing_in_progress.Goals as goal

pub returns : goal.returns
returns c = λ rules records is.
    let past = history rules records in
    c.unsent.ensures
    ∙ progress-table rules past (history-judged rules records) c.args.self.now is (link_view c.args.link.now) c.last_begun_on.result (c.last_begun_on.ensures past is)
