use Rattle.std.proofs.Common.{◌∙◌, rules}
use Rattle.state_outgoing.proofs.deliveries.SentDeliveries.last_begun_on.Goals as goal

pub returns : goal.returns
returns c = λ history table. (search rules) ∙ table.begun.on_link c.args.link
