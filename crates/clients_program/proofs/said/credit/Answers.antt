use Rattle.clients_program.proofs.Small.{credit_small}
use Rattle.clients_program.proofs.said.credit.Goals as goal

pub returns-clause-small : goal.returns-clause-small
returns-clause-small c = credit_small c.args.count
