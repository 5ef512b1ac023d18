use Rattle.std.proofs.Common.{arith}
use Rattle.trace_events.specs.View.{link_view}
use Rattle.route_dues.proofs.TransferLengths.{later_sized}
use Rattle.route_dues.proofs.transfers.later_room.Goals as goal

pub returns : goal.returns
returns c = omega (arith, later_sized (link_view c.args.link.now), c.uint_size.ensures.size, c.saturating_sub.ensures)
