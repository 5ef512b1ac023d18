use Rattle.amqp_perf.specs.View.{attach_fields}
use Rattle.amqp_perf.proofs.Writable.{refused_writable}
use Rattle.amqp_perf.proofs.attach.Attach.refused.Goals as goal

pub returns-clause-writable : goal.returns-clause-writable
returns-clause-writable c = refused_writable (attach_fields c.args.self)
