use Rattle.state_outgoing.specs.SentViews.{sent_view}
use Rattle.state_outgoing.proofs.SentKnown.{entry_sent}
use Rattle.state_outgoing.proofs.sent.SentDelivery.is_sent.Goals as goal

pub returns-clause-known : goal.returns-clause-known
returns-clause-known c = λ past entry. entry_sent past (sent_view c.args.self.now) entry
