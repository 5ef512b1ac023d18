use Rattle.state_answers.proofs.lent_tables.outcomes.LentTablesOutcomes.is_of_multicast.Goals as goal

pub returns : goal.returns
returns c = λ history stands knows. c.is_of_multicast.ensures history stands.1.1.1.1.0.0 knows
