use Rattle.state_answers.proofs.lent_tables.LentTablesInputs.incoming_in_progress.Goals as goal

pub returns-clause-value : goal.returns-clause-value
returns-clause-value c = λ rules past stands live. c.incoming_in_progress.ensures.value rules past stands.0 stands.1.1.1.1.0 live

pub returns-clause-known : goal.returns-clause-known
returns-clause-known c = λ rules past stands live. c.incoming_in_progress.ensures.known rules past stands.1.1.1.1.0.0
