use Rattle.std.proofs.Common.{◌∙◌}
use Rattle.state_outgoing.specs.Carriers.{carriers_in}
use Rattle.state_outgoing.proofs.CarriersKnown.{first-kept}
use Rattle.state_outgoing.proofs.deliveries.SentDeliveries.carrier_of.Goals as goal

pub returns-clause-known : goal.returns-clause-known
returns-clause-known c = λ history table.
    let number = c.args.number in
    c.carrier_of.ensures ∙ first-kept c.args.self.now.let_go.items number history (carriers_in c.args.self.now.begun number) (table.begun.carriers number)
