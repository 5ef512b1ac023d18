use Rattle.state_answers.proofs.lent_tables.outcomes.LentTablesOutcomes.incoming_at.Goals as goal

pub returns-clause-value : goal.returns-clause-value
returns-clause-value c = λ rules past stands has. c.incoming_at.ensures.value rules past stands.1.1.1.1.0.0 has

pub returns-clause-known : goal.returns-clause-known
returns-clause-known c = λ rules past stands has. c.incoming_at.ensures.known rules past stands.1.1.1.1.0.0
