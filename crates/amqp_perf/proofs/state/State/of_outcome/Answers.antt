use Rattle.amqp_perf.proofs.Writable.{bare_state_writable}
use Rattle.amqp_perf.proofs.state.State.of_outcome.Goals as goal

pub returns-clause-writable : goal.returns-clause-writable
returns-clause-writable c = bare_state_writable c.args.outcome
