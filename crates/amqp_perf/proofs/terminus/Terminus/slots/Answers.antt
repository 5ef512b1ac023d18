use Rattle.amqp_perf.specs.NestedViews.{terminus_view}
use Rattle.amqp_perf.proofs.NestedAgain.{terminus_can}
use Rattle.amqp_perf.proofs.terminus.Terminus.slots.Goals as goal

pub returns-clause-each : goal.returns-clause-each
returns-clause-each c = terminus_can 29 (terminus_view c.args.self) c.requires
