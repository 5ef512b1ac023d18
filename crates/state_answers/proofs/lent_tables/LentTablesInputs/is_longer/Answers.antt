use Rattle.state_answers.proofs.lent_tables.LentTablesInputs.is_longer.Goals as goal

pub returns : goal.returns
returns c = λ rules past stands knows. c.is_longer.ensures rules past stands.1.1.1.1.0.0 knows
