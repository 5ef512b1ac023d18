use Rattle.amqp_perf.proofs.UsualFields.{usual_read}
use Rattle.amqp_perf.proofs.usual.read_usual.Goals as goal

pub returns-then-is_done : goal.returns-then-is_done
returns-then-is_done c =
    let list = c.in_ok-code in
    usual_read c.args.octets.now list.code list.list c.of_fields.new.fields list.rest.now _ list.ensures c.in_ok-performative.ensures (c.is_done.ensures c.if-is_done.true)
