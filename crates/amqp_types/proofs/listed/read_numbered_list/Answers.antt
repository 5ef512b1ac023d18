use Rattle.std.proofs.Common.{arith}
use Rattle.amqp_types.proofs.ListedValues.{numbered_front}
use Rattle.amqp_types.proofs.listed.read_numbered_list.Goals as goal

pub returns : goal.returns
returns c =
    let list = c.in_ok-sequence in
    let front = numbered_front c.args.bytes.now list.sequence.count list.sequence.body.now list.rest.now (omega (arith, c.if-bytes-lt-FRONT.false)) c.if-bytes-ne0.false c.if-bytes-ne83.false list.ensures in
    rw (c.from.ensures, c.items.ensures.same) front
