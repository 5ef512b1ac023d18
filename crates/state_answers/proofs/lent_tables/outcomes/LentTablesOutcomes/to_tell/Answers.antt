use Rattle.state_answers.proofs.lent_tables.outcomes.LentTablesOutcomes.to_tell.Goals as goal

pub returns : goal.returns
returns c = λ past stands live. c.to_tell.ensures.value c.args._rules.now past stands.0 stands.1.1.1.1.0
