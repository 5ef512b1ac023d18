use Rattle.std.proofs.Common.{◌∙◌}
use Rattle.state_outgoing.specs.SentViews.{sent_view}
use Rattle.state_outgoing.proofs.SentPayload.{entry_goes_on}
use Rattle.state_outgoing.proofs.sent.SentDelivery.is_payload_so_far.Goals as goal

pub returns-clause-known : goal.returns-clause-known
returns-clause-known c = λ rules records d entry lawful names is.
    c.goes_on_with.ensures.compared
    ∙ entry_goes_on rules records (sent_view c.args.self.now) d c.args.more c.args.payload.now c.args.octets.now entry lawful names is c.goes_on_with.ensures.counted
