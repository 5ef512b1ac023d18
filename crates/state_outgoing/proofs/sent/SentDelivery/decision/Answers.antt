use Rattle.std.proofs.Common.{◌∙◌}
use Rattle.state_outgoing.specs.SentViews.{sent_view}
use Rattle.state_outgoing.proofs.SentKnown.{entry_decision}
use Rattle.state_outgoing.proofs.sent.SentDelivery.decision.Goals as goal

pub returns-clause-known : goal.returns-clause-known
returns-clause-known c = λ past entry. c.decided.ensures ∙ entry_decision past (sent_view c.args.self.now) entry
