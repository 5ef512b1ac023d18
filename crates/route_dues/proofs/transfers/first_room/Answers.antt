use Rattle.std.proofs.Common.{arith}
use Rattle.trace_events.specs.View.{link_view}
use Rattle.route_dues.proofs.TransferLengths.{first_sized}
use Rattle.route_dues.proofs.transfers.first_room.Goals as goal

pub returns : goal.returns
returns c =
    omega (
      arith,
      first_sized (link_view c.args.link.now) c.args.id c.args.format,
      c.uint_size.ensures.size,
      c.uint_size-2.ensures.size,
      c.uint_size-3.ensures.size,
      c.saturating_sub.ensures,
    )
