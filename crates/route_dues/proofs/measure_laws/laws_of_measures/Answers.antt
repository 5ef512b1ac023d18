use Rattle.route_dues.proofs.Measures.{lessens, written}
use Rattle.route_dues.proofs.measure_laws.laws_of_measures.Goals as goal

pub returns-clause-lessens : goal.returns-clause-lessens
returns-clause-lessens c = lessens

pub returns-clause-written : goal.returns-clause-written
returns-clause-written c = written
