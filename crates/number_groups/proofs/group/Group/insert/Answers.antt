use Rattle.std.proofs.Common.{sym, ap, ◌∙◌, cond, true, nat_eq}
use Rattle.number_groups.specs.Numbers.{is_among, members}
use Rattle.number_groups.proofs.Entries.{put-in}
use Rattle.number_groups.proofs.group.Group.insert.Goals as goal

pub returns-in_ok-insert-in-Many-clause-joined : goal.returns-in_ok-insert-in-Many-clause-joined
returns-in_ok-insert-in-Many-clause-joined c = λ n.
    put-in c.in-Many.numbers.entries c.insert.new.self.entries c.args.number tt c.in_ok-insert-in-Many.ensures.updates.0 n
    ∙ ap (λ g. cond (nat_eq c.args.number n) true (is_among (members g) n)) (sym c.in-Many.is)
