use Rattle.std.proofs.Common.{◌∙◌}
use Rattle.trace_events.specs.History.{history}
use Rattle.trace_events.proofs.Judged.{history-judged}
use Rattle.trace_events.specs.View.{outgoing_view}
use Rattle.state_outgoing.proofs.AnswersKnown.{decision-known}
use Rattle.state_outgoing.proofs.deliveries.SentDeliveries.decision.Goals as goal

pub returns : goal.returns
returns c = λ rules records are knows.
    c.decided.ensures ∙ decision-known rules (history rules records) (history-judged rules records) c.args.self.now are (outgoing_view c.args.delivery.now) knows
