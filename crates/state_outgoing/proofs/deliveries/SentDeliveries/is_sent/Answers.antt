use Rattle.std.proofs.Common.{◌∙◌}
use Rattle.trace_events.specs.History.{history}
use Rattle.trace_events.proofs.Judged.{history-judged}
use Rattle.trace_events.specs.View.{outgoing_view}
use Rattle.state_outgoing.proofs.AnswersKnown.{sent-known}
use Rattle.state_outgoing.proofs.deliveries.SentDeliveries.is_sent.Goals as goal

pub returns : goal.returns
returns c = λ rules records are knows.
    c.says_sent.ensures ∙ sent-known rules (history rules records) (history-judged rules records) c.args.self.now are (outgoing_view c.args.delivery.now) knows
