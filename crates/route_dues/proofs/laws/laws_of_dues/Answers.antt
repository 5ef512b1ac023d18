use Rattle.route_dues.proofs.FlowsFollow.{window_follows, credit_follows, drain_follows}
use Rattle.route_dues.proofs.OutcomesFollow.{outcome_follows}
use Rattle.route_dues.proofs.SettlingsFollow.{settling_follows}
use Rattle.route_dues.proofs.Sending.{goes_on, next_begins, copy_begins}
use Rattle.route_dues.proofs.Behind.{follows_within, stays_in_order}
use Rattle.route_dues.proofs.StatesWritable.{row_state}
use Rattle.route_dues.proofs.laws.laws_of_dues.Goals as goal

pub returns-clause-window : goal.returns-clause-window
returns-clause-window c = window_follows

pub returns-clause-credit : goal.returns-clause-credit
returns-clause-credit c = credit_follows

pub returns-clause-drain : goal.returns-clause-drain
returns-clause-drain c = drain_follows

pub returns-clause-part : goal.returns-clause-part
returns-clause-part c = goes_on

pub returns-clause-waiting : goal.returns-clause-waiting
returns-clause-waiting c = next_begins

pub returns-clause-copy : goal.returns-clause-copy
returns-clause-copy c = copy_begins

pub returns-clause-outcome : goal.returns-clause-outcome
returns-clause-outcome c = outcome_follows

pub returns-clause-settling : goal.returns-clause-settling
returns-clause-settling c = settling_follows

pub returns-clause-behind : goal.returns-clause-behind
returns-clause-behind c = stays_in_order

pub returns-clause-fits : goal.returns-clause-fits
returns-clause-fits c = follows_within

pub returns-clause-states : goal.returns-clause-states
returns-clause-states c = row_state
