use Rattle.state_answers.proofs.lent_tables.outcomes.LentTablesOutcomes.is_gone.Goals as goal

pub returns : goal.returns
returns c = λ past stands knows. c.is_gone.ensures c.args._rules.now past stands.1.1.1.1.0.0 knows
