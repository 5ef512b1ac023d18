use Rattle.state_answers.proofs.lent_tables.outcomes.LentTablesOutcomes.is_complete.Goals as goal

pub returns : goal.returns
returns c = λ rules past stands knows. c.is_complete.ensures rules past stands.1.1.1.1.0.0 knows
