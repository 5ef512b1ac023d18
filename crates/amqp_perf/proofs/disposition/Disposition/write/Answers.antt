use Rattle.amqp_perf.specs.View.{disposition_fields}
use Rattle.amqp_perf.proofs.NestedAgain.{disposition_again}
use Rattle.amqp_perf.proofs.disposition.Disposition.write.Goals as goal

pub returns-clause-again : goal.returns-clause-again
returns-clause-again c = disposition_again (disposition_fields c.args.self) c.slots.ensures.each c.requires
