use Rattle.std.proofs.Common.{refl, true, drop, length}
use Rattle.amqp_perf.specs.View.{transfer_fields}
use Rattle.trace_events.specs.View.{link_view}
use Rattle.trace_events.specs.Written.{next_part}
use Rattle.trace_events.specs.Incoming as received
use Rattle.trace_events.specs.Outgoing as sent
use Rattle.route_dues.proofs.TransferLengths.{next_same, next_short}
use Rattle.route_dues.proofs.PartsWritten.{part_counted, part_again, if_ok, room_by}
use Rattle.route_dues.proofs.transfers.put_next.Goals as goal

pub put_spoken-requires-clause-fits : goal.put_spoken-requires-clause-fits
put_spoken-requires-clause-fits g c =
    let l = link_view c.args.link.now in
    part_counted l (next_part l) (next_part l true) (transfer_fields c.later.result) c.later_room-room.result c.min.result c.args.rest.now
    c.min.ensures refl c.later.ensures.says (next_same l) (next_short l) c.frame_limit-limit.result c.frame_limit-limit.type_inv c.later_room-room.ensures

pub returns-clause-again : goal.returns-clause-again
returns-clause-again g c = λ rules history d j stands is.
    let l = link_view c.args.link.now in
    if_ok c.put_spoken.result
    (part_again l (next_part l) (next_part l true) (transfer_fields c.later.result) c.later_room-room.result c.min.result c.args.rest.now
    c.min.ensures refl c.later.ensures.says history
    (room_by c.later_room-room.result c.frame_limit-limit.result _ _ c.later_room-room.ensures (c.frame_limit-limit.ensures rules history stands))
    (drop (length (sent.payload j history)) (received.payload d history)) is (next_same l) (next_short l) c.put_spoken.ensures.again)
