use Rattle.std.proofs.Common.{◌≡◌, sym, ap, ◌∙◌, cond, false, nat_eq}
use Rattle.number_groups.specs.Numbers.{is_among, listed, members}
use Rattle.number_groups.proofs.Entries.{taken-out}
use Rattle.number_groups.proofs.number_set.NumberSet.pop.Goals as goal

pub returns-in_ok-number-in-Some-Many-clause-left : goal.returns-in_ok-number-in-Some-Many-clause-left
returns-in_ok-number-in-Some-Many-clause-left c = λ n.
    taken-out c.in-Some-Many.numbers.entries c.pop.new.self.entries c.in_ok-number-in-Some-Many.number c.in_ok-number-in-Some-Many.ensures.updates.0 n
    ∙ ap (λ xs. cond (nat_eq c.in_ok-number-in-Some-Many.number n) false (is_among xs n)) (sym (sym c.self.view_is ∙ (ap listed c.in-Some-Many.is ∙ ap members c.in-Some-Many.field-0-is)))
