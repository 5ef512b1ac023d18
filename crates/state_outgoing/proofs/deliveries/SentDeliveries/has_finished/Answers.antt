use Rattle.std.proofs.Common.{sym, ◌∙◌}
use Rattle.trace_events.specs.History.{history}
use Rattle.trace_events.proofs.Judged.{history-judged}
use Rattle.state_outgoing.proofs.AnswersKnown.{each-finished, finished-each}
use Rattle.state_outgoing.proofs.deliveries.SentDeliveries.has_finished.Goals as goal

pub returns-clause-known : goal.returns-clause-known
returns-clause-known c = λ rules records is stays says.
    finished-each rules (history rules records) (history-judged rules records) c.args.self.now is c.args.number stays (sym c.says_finished.ensures ∙ says)

pub returns-clause-all : goal.returns-clause-all
returns-clause-all c = λ rules records is stays each.
    c.says_finished.ensures ∙ each-finished rules (history rules records) (history-judged rules records) c.args.self.now is c.args.number stays each
