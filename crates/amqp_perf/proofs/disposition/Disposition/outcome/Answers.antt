use Rattle.std.specs.Prelude.{option_map}
use Rattle.amqp_perf.specs.NestedViews.{state_view}
use Rattle.amqp_perf.proofs.Writable.{outcome_writable}
use Rattle.amqp_perf.proofs.disposition.Disposition.outcome.Goals as goal

pub returns-clause-writable : goal.returns-clause-writable
returns-clause-writable c = outcome_writable c.args.delivery_id (option_map state_view c.args.state)
