use Rattle.number_groups.proofs.Moves.{empty-none}
use Rattle.number_groups.specs.Groups.{numbers}
use Rattle.number_groups.proofs.groups.Groups.is_empty.Goals as goal

pub returns : goal.returns
returns g c = empty-none (numbers g.K.PartialEq.eq c.args.self.now c.args.key.now) c.count.result c.count.ensures.count
