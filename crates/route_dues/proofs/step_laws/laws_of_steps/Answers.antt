use Rattle.route_dues.proofs.Steps.{start, input, fits, reply, answered, due, rest, diligent, ordered}
use Rattle.route_dues.proofs.step_laws.laws_of_steps.Goals as goal

pub returns-clause-start : goal.returns-clause-start
returns-clause-start c = start

pub returns-clause-input : goal.returns-clause-input
returns-clause-input c = input

pub returns-clause-fits : goal.returns-clause-fits
returns-clause-fits c = fits

pub returns-clause-reply : goal.returns-clause-reply
returns-clause-reply c = reply

pub returns-clause-answered : goal.returns-clause-answered
returns-clause-answered c = answered

pub returns-clause-due : goal.returns-clause-due
returns-clause-due c = due

pub returns-clause-rest : goal.returns-clause-rest
returns-clause-rest c = rest

pub returns-clause-lawful : goal.returns-clause-lawful
returns-clause-lawful c = λ rules records at. at.under_way.order.lawful.unbroken

pub returns-clause-diligent : goal.returns-clause-diligent
returns-clause-diligent c = diligent

pub returns-clause-ordered : goal.returns-clause-ordered
returns-clause-ordered c = ordered
