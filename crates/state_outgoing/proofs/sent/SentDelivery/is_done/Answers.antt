use Rattle.std.proofs.Common.{◌∙◌}
use Rattle.state_outgoing.specs.SentViews.{sent_view}
use Rattle.state_outgoing.proofs.SentKnown.{entry_done}
use Rattle.state_outgoing.proofs.sent.SentDelivery.is_done.Goals as goal

pub returns-clause-known : goal.returns-clause-known
returns-clause-known c = λ past entry. c.says_done.ensures ∙ entry_done past (sent_view c.args.self.now) entry
