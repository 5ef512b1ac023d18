use Rattle.state_outgoing.specs.SentViews.{sent_view}
use Rattle.state_outgoing.proofs.SentKnown.{entry_unsettled}
use Rattle.state_outgoing.proofs.sent.SentDelivery.is_unsettled.Goals as goal

pub returns-clause-known : goal.returns-clause-known
returns-clause-known c = λ past entry. entry_unsettled past (sent_view c.args.self.now) entry
