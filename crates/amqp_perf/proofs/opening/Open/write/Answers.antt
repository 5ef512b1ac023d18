use Rattle.amqp_perf.specs.View as views
use Rattle.amqp_perf.proofs.Again.{open_again}
use Rattle.amqp_perf.proofs.opening.Open.write.Goals as goal

pub returns-clause-again : goal.returns-clause-again
returns-clause-again c = open_again (views.open_fields c.args.self) c.slots.ensures.each c.requires.few
