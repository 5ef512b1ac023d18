use Rattle.std.proofs.Common.{◌∙◌}
use Rattle.trace_events.specs.History.{history}
use Rattle.trace_events.proofs.Judged.{history-judged}
use Rattle.trace_events.specs.View.{incoming_view}
use Rattle.state_outgoing.proofs.AnswersKnown.{paired-table}
use Rattle.state_outgoing.proofs.deliveries.SentDeliveries.is_paired.Goals as goal

pub returns : goal.returns
returns c = λ rules records is stays.
    let past = history rules records in
    c.is_some.ensures
    ∙ paired-table rules past (history-judged rules records) c.args.self.now is (incoming_view c.args.delivery.now) stays c.carrier_of.result (c.carrier_of.ensures.known past is)
