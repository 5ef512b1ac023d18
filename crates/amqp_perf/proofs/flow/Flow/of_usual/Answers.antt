use Rattle.amqp_perf.proofs.UsualTables.{flow_is}
use Rattle.amqp_perf.proofs.flow.Flow.of_usual.Goals as goal

pub returns : goal.returns
returns c = flow_is _ _ _ _ _ _ _ _ _ _ _ _ _ _ _ c.in_ok-next_incoming_id.ensures c.in_ok-incoming_window.ensures c.in_ok-next_outgoing_id.ensures c.in_ok-outgoing_window.ensures c.in_ok-handle.ensures
    c.in_ok-delivery_count.ensures c.in_ok-link_credit.ensures c.in_ok-any_uint.ensures c.in_ok-drain.ensures c.in_ok-echo.ensures c.in_ok-any_boolean.ensures
