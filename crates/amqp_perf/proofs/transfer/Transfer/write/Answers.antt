use Rattle.amqp_perf.specs.View as views
use Rattle.amqp_perf.proofs.Again.{transfer_again}
use Rattle.amqp_perf.proofs.transfer.Transfer.write.Goals as goal

pub returns-clause-again : goal.returns-clause-again
returns-clause-again c = transfer_again (views.transfer_fields c.args.self) c.slots.ensures.each c.requires.few
