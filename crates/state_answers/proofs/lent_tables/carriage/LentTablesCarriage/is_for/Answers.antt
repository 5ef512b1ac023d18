use Rattle.state_answers.proofs.lent_tables.carriage.LentTablesCarriage.is_for.Goals as goal

pub returns : goal.returns
returns c = λ rules history stands knows. c.is_for.ensures rules history stands.1.1.1.1.0.0 knows
