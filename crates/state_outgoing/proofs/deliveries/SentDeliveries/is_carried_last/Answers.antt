use Rattle.std.proofs.Common.{sym, ◌∙◌}
use Rattle.trace_events.specs.History.{history}
use Rattle.trace_events.proofs.Judged.{history-judged}
use Rattle.state_outgoing.proofs.AnswersKnown.{last-apart}
use Rattle.state_outgoing.proofs.deliveries.SentDeliveries.is_carried_last.Goals as goal

pub returns-clause-known : goal.returns-clause-known
returns-clause-known c = λ rules records is stays says link lives.
    last-apart rules (history rules records) (history-judged rules records) c.args.self.now is c.args.number stays c.args.links.now (sym c.says_carried_last.ensures ∙ says) link lives
