use Rattle.std.proofs.Common.{◌∙◌}
use Rattle.state_outgoing.specs.SentViews.{sent_view}
use Rattle.state_outgoing.proofs.SentKnown.{entry_to_settle}
use Rattle.state_outgoing.proofs.sent.SentDelivery.is_to_settle.Goals as goal

pub returns-clause-known : goal.returns-clause-known
returns-clause-known c = λ past entry closes. c.may_settle.ensures ∙ entry_to_settle past (sent_view c.args.self.now) entry c.args.is_closed closes
