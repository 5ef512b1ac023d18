use Rattle.std.proofs.Common.{ap, bytes_eq}
use Rattle.std.specs.List.{list_any}
use Rattle.due_lists.proofs.AwakeMoves.{before-same, gone, one-fewer}
use Rattle.due_lists.proofs.addresses_to_try.AddressesToTry.remove.Goals as goal

pub returns-clause-removed : goal.returns-clause-removed
returns-clause-removed c =
    gone c.args.self.now.addresses c.swap_remove_index.new.self c.args.index c.swap_remove_index.result c.swap_remove_index.ensures.key c.swap_remove_index.ensures.updates

pub returns-clause-before : goal.returns-clause-before
returns-clause-before c = λ at.
    ap (list_any (λ kept. bytes_eq at kept.items))
    (before-same c.args.self.now.addresses c.swap_remove_index.new.self c.args.index c.swap_remove_index.result c.swap_remove_index.ensures.key c.swap_remove_index.ensures.keys c.swap_remove_index.ensures.unchanged)

pub returns-clause-fewer : goal.returns-clause-fewer
returns-clause-fewer c =
    one-fewer c.args.self.now.addresses c.swap_remove_index.new.self c.args.index c.swap_remove_index.result c.swap_remove_index.ensures.key c.swap_remove_index.ensures.len
