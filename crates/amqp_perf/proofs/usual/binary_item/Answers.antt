use Rattle.amqp_perf.proofs.UsualItems.{binary_some}
use Rattle.amqp_perf.proofs.usual.binary_item.Goals as goal

pub returns-else-data-size : goal.returns-else-data-size
returns-else-data-size c =
    let front = c.in_ok-first in
    let sized = c.in_ok-size-in-160 in
    binary_some c.args.octets.now front.data.now front.first.now sized.data.now sized.size.now c.from-size.result c.split_at.result.0.now c.split_at.result.1.now
    front.ensures.cases.0 c.in-160.is sized.ensures.cases.0 c.from-size.ensures c.if-data-size.false c.split_at.ensures.front c.split_at.ensures.back
