use Rattle.std.proofs.Common.{ap, ◌∙◌, option_and_then}
use Rattle.trace_events.specs.History.{history}
use Rattle.trace_events.specs.Incoming.{incoming_at}
use Rattle.trace_events.proofs.Judged.{history-judged}
use Rattle.trace_events.specs.View.{link_view}
use Rattle.state_outgoing.proofs.AnswersKnown.{carried-table}
use Rattle.state_outgoing.proofs.deliveries.SentDeliveries.carried_before.Goals as goal

pub returns : goal.returns
returns c = λ rules records is stays.
    let past = history rules records in
    ap (option_and_then (λ n. incoming_at n past)) c.carried_by.ensures
    ∙ carried-table rules past (history-judged rules records) c.args.self.now is (link_view c.args.link.now) stays c.last_begun_on.result (c.last_begun_on.ensures past is)
