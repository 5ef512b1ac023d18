use Rattle.amqp_perf.proofs.UsualItems.{uint_octet}
use Rattle.amqp_perf.proofs.usual.uint_item.Goals as goal

pub returns-in_ok-number-in-82 : goal.returns-in_ok-number-in-82
returns-in_ok-number-in-82 c =
    let front = c.in_ok-first in
    let number = c.in_ok-number-in-82 in
    uint_octet c.args.octets.now front.data.now front.first.now number.rest.now c.from.result number.number.now front.ensures.cases.0 c.in-82.is number.ensures.cases.0 c.from.ensures
