use Rattle.amqp_perf.proofs.UsualTables.{transfer_is}
use Rattle.amqp_perf.proofs.transfer.Transfer.of_usual.Goals as goal

pub returns : goal.returns
returns c = transfer_is _ _ _ _ _ _ _ _ _ _ _ _ _ _ _ _ c.in_ok-handle.ensures c.in_ok-delivery_id.ensures c.in_ok-delivery_tag.ensures c.in_ok-message_format.ensures c.in_ok-settled.ensures c.in_ok-more.ensures
    c.in_ok-any_boolean.ensures c.in_ok-any_boolean-2.ensures c.in_ok-resume.ensures c.in_ok-aborted.ensures c.in_ok-any_boolean-3.ensures
