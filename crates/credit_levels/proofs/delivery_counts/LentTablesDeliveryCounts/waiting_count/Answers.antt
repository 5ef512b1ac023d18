use Rattle.credit_levels.proofs.delivery_counts.LentTablesDeliveryCounts.waiting_count.Goals as goal

pub returns : goal.returns
returns c = λ past stands. c.waiting_count.ensures c.args._rules.now past stands.0 stands.1.1.1.1.0
