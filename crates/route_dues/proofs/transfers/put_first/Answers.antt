use Rattle.std.proofs.Common.{refl, subst, true, length, nat_lt}
use Rattle.trace_events.specs.View.{link_view, incoming_view}
use Rattle.trace_events.specs.Written.{first_part}
use Rattle.trace_events.specs.Incoming as received
use Rattle.route_dues.specs.Writing.{IsReadAgain}
use Rattle.route_dues.specs.Transfers.{filled_on}
use Rattle.route_dues.proofs.TransferLengths.{first_same, first_short}
use Rattle.route_dues.proofs.PartsWritten.{part_counted, part_again, if_ok, room_by}
use Rattle.route_dues.proofs.transfers.put_first.Goals as goal

pub put_first_part-requires : goal.put_first_part-requires
put_first_part-requires g c =
    let l = link_view c.args.link.now in
    let id = c.next_delivery_id-id.result in
    let format = c.args.delivery.now.format in
    record {
      fits = part_counted l (first_part l id format) (first_part l id format true) (first_part l id format (nat_lt c.first_room-room.result (length c.args.payload.now))) c.first_room-room.result c.min.result c.args.payload.now
          c.min.ensures refl refl (first_same l id format) (first_short l id format) c.frame_limit-limit.result c.frame_limit-limit.type_inv c.first_room-room.ensures;
    }

pub returns-clause-again : goal.returns-clause-again
returns-clause-again g c = λ rules history stands live is.
    let l = link_view c.args.link.now in
    let id = c.next_delivery_id-id.result in
    let format = c.args.delivery.now.format in
    if_ok c.put_first_part.result
    (subst (λ n. IsReadAgain (filled_on history l (first_part l n format) (received.payload (incoming_view c.args.delivery.now) history))) (c.next_delivery_id-id.ensures rules history stands live.0)
    (part_again l (first_part l id format) (first_part l id format true) (first_part l id format (nat_lt c.first_room-room.result (length c.args.payload.now))) c.first_room-room.result c.min.result c.args.payload.now
    c.min.ensures refl refl history
    (room_by c.first_room-room.result c.frame_limit-limit.result _ _ c.first_room-room.ensures (c.frame_limit-limit.ensures rules history stands))
    (received.payload (incoming_view c.args.delivery.now) history) is (first_same l id format) (first_short l id format) c.put_first_part.ensures.again))
