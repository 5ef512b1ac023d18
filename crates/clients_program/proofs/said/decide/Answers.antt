use Rattle.clients_program.proofs.Small.{decide_small}
use Rattle.clients_program.proofs.said.decide.Goals as goal

pub returns-clause-small : goal.returns-clause-small
returns-clause-small c = decide_small c.args.id c.args.outcome
