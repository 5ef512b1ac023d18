use Rattle.route_answers.proofs.Inputs.{answers_in_order}
use Rattle.route_answers.proofs.Kept.{none_answered, opens_stay}
use Rattle.route_answers.proofs.laws.laws_of_answers.Goals as goal

pub returns-clause-in_order : goal.returns-clause-in_order
returns-clause-in_order c = λ rules past connection m ready may. answers_in_order rules connection past ready m may

pub returns-clause-start : goal.returns-clause-start
returns-clause-start c = none_answered

pub returns-clause-stay : goal.returns-clause-stay
returns-clause-stay c = opens_stay
