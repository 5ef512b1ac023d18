use Rattle.state_answers.proofs.lent_tables.carriage.LentTablesCarriage.completed_before.Goals as goal

pub returns : goal.returns
returns c = λ rules past stands first second. c.completed_before.ensures rules past stands.1.1.1.1.0.0 first second
