use Rattle.amqp_perf.proofs.Writable.{delivery_failed_writable}
use Rattle.amqp_perf.proofs.state.State.delivery_failed.Goals as goal

pub returns-clause-writable : goal.returns-clause-writable
returns-clause-writable c = delivery_failed_writable
