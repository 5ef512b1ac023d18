use Rattle.number_groups.proofs.Moves.{empty-none}
use Rattle.number_groups.specs.OctetGroups.{numbers}
use Rattle.number_groups.proofs.octet_groups.OctetGroups.is_empty.Goals as goal

pub returns : goal.returns
returns c = empty-none (numbers c.args.self.now c.args.key.now) c.count.result c.count.ensures.count
