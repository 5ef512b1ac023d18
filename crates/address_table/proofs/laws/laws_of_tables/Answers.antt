use Rattle.std.proofs.lemmas.List.MinMax.{IsFirstBest-from_best_of, IsStrictWeakOrder-by_number}
use Rattle.address_table.proofs.RuleTests.{none_refused}
use Rattle.address_table.proofs.laws.laws_of_tables.Goals as goal

pub returns-clause-accepted : goal.returns-clause-accepted
returns-clause-accepted c = none_refused

pub returns-clause-first_best : goal.returns-clause-first_best
returns-clause-first_best c = λ rank link links. IsFirstBest-from_best_of (IsStrictWeakOrder-by_number rank) link links
