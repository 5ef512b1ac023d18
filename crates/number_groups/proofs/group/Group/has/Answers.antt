use Rattle.std.proofs.Common.{sym, ap, ◌∙◌, nat_eq}
use Rattle.std.proofs.lemmas.Map.Made.{is_some-lookup}
use Rattle.number_groups.specs.Numbers.{is_among, members}
use Rattle.number_groups.proofs.group.Group.has.Goals as goal

pub returns-in-Many : goal.returns-in-Many
returns-in-Many c =
    c.contains_key.ensures ∙ (is_some-lookup (nat_eq c.args.number) c.in-Many.numbers.entries
    ∙ ap (λ g. is_among (members g) c.args.number) (sym c.in-Many.is))
