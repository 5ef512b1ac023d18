use Rattle.std.proofs.Common.{sym, ap, ◌∙◌, cond, false, nat_eq}
use Rattle.number_groups.specs.Numbers.{is_among, members}
use Rattle.number_groups.proofs.Entries.{taken-out}
use Rattle.number_groups.proofs.group.Group.remove.Goals as goal

pub returns-in-Many : goal.returns-in-Many
returns-in-Many c = λ n.
    taken-out c.in-Many.numbers.entries c.swap_remove.new.self.entries c.args.number c.swap_remove.ensures.updates.0 n
    ∙ ap (λ g. cond (nat_eq c.args.number n) false (is_among (members g) n)) (sym c.in-Many.is)
