use Rattle.std.proofs.Common.{ℕ, List, subst}
use Rattle.flow_counts.specs.Words.{Gives}
use Rattle.amqp_perf.specs.Meaning.{Meaning}
use Rattle.amqp_perf.specs.View.{view}
use Rattle.amqp_perf.proofs.Spoken.{is_found, performative_again}
use Rattle.amqp_perf.proofs.Within.{state_is_writable}
use Rattle.amqp_perf.proofs.performative.Performative.read.Goals as goal

pub returns-clause-found : goal.returns-clause-found
returns-clause-found c = is_found c.args.octets.now c.read_front.result c.read_front.ensures

pub returns-clause-only : goal.returns-clause-only
returns-clause-only c = λ meaning rest front. subst (λ read. Gives {Y = Meaning × List ℕ} (λ x. (view x.0, x.1.now)) c.read_front.result read) (performative_again c.args.octets.now meaning rest front) c.read_front.ensures

pub returns-clause-state : goal.returns-clause-state
returns-clause-state c = state_is_writable c.args.octets.now c.read_front.result (is_found c.args.octets.now c.read_front.result c.read_front.ensures)
