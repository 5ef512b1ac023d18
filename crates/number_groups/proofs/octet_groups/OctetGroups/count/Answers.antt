use Rattle.number_groups.proofs.Moves.{none_distinct}
use Rattle.number_groups.proofs.octet_groups.OctetGroups.count.Goals as goal

pub returns-in-None-clause-distinct : goal.returns-in-None-clause-distinct
returns-in-None-clause-distinct c = none_distinct c.in-None.ensures.value
