use Rattle.std.proofs.Common.{sym, subst, Option, IfSome, ◌∙◌}
use Rattle.trace_events.specs.Event.{Outgoing}
use Rattle.trace_events.specs.History.{history}
use Rattle.trace_events.proofs.Judged.{history-judged}
use Rattle.trace_events.specs.View.{incoming_view}
use Rattle.state_outgoing.specs.SentAnswers.{Knows}
use Rattle.state_outgoing.proofs.AnswersKnown.{given-known, pairing-table}
use Rattle.state_outgoing.proofs.deliveries.SentDeliveries.pairing.Goals as goal

pub returns-clause-value : goal.returns-clause-value
returns-clause-value c = λ rules records is stays.
    let past = history rules records in
    c.given.ensures
    ∙ pairing-table rules past (history-judged rules records) c.args.self.now is (incoming_view c.args.delivery.now) stays c.carrier_of.result (c.carrier_of.ensures.known past is)

pub returns-clause-known : goal.returns-clause-known
returns-clause-known c = λ rules records is.
    subst (λ (o : Option Outgoing). IfSome o (Knows c.args.self.now)) (sym c.given.ensures) (given-known c.args.self.now (history rules records) is c.carrier_of.result)
