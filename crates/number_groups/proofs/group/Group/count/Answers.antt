use Rattle.number_groups.proofs.Moves.{one_distinct}
use Rattle.number_groups.proofs.group.Group.count.Goals as goal

pub returns-in-One-clause-distinct : goal.returns-in-One-clause-distinct
returns-in-One-clause-distinct c = one_distinct c.in-One.is
