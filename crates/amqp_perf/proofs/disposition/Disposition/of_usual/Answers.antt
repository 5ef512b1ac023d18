use Rattle.amqp_perf.proofs.UsualTables.{disposition_is}
use Rattle.amqp_perf.proofs.disposition.Disposition.of_usual.Goals as goal

pub returns : goal.returns
returns c = disposition_is _ _ _ _ _ _ _ _ _ c.in_ok-role.ensures c.in_ok-first.ensures c.in_ok-last.ensures c.in_ok-settled.ensures c.in_ok-state.ensures c.in_ok-any_boolean.ensures
