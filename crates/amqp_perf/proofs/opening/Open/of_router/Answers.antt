use Rattle.amqp_perf.proofs.Writable.{open_writable}
use Rattle.amqp_perf.proofs.opening.Open.of_router.Goals as goal

pub returns-clause-writable : goal.returns-clause-writable
returns-clause-writable c = open_writable
