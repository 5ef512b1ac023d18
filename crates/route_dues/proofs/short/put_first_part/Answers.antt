use Rattle.std.proofs.Common.{subst, ◌<◌, ◌^◌}
use Rattle.trace_events.specs.View.{link_view}
use Rattle.route_dues.proofs.ShortFrames.{first_again, first_counted, first_written, puts_same}
use Rattle.route_dues.proofs.short.put_first_part.Goals as goal

pub overflow_cast-size : goal.overflow_cast-size
overflow_cast-size c =
    let counted = first_counted (link_view c.args.link.now) c.args.id c.args.format c.args.more c.args.payload.now c.uint_in-handle_size.result.1 c.uint_in-id_size.result.1 c.uint_in-format_size.result.1 c.uint_in-handle_size.ensures.size c.uint_in-id_size.ensures.size c.uint_in-format_size.ensures.size in
    record { fits = subst (λ n. n < 2 ^ 32) counted c.requires.fits }

pub returns-in_err-reserve-clause-again : goal.returns-in_err-reserve-clause-again
returns-in_err-reserve-clause-again c =
    first_again (link_view c.args.link.now) c.args.id c.args.format c.args.more c.args.payload.now c.front-front.ensures.fits (c.uint_in-handle_size.ensures.can 29) (c.uint_in-id_size.ensures.can 29) (c.uint_in-format_size.ensures.can 29)

pub returns-clause-again : goal.returns-clause-again
returns-clause-again c =
    first_again (link_view c.args.link.now) c.args.id c.args.format c.args.more c.args.payload.now c.front-front.ensures.fits (c.uint_in-handle_size.ensures.can 29) (c.uint_in-id_size.ensures.can 29) (c.uint_in-format_size.ensures.can 29)

pub returns-clause-appended : goal.returns-clause-appended
returns-clause-appended c =
    let h = c.uint_in-handle_size in
    let n = c.uint_in-id_size in
    let e = c.uint_in-format_size in
    puts_same c.args.out.now.items c.put_parts.new.out.items _ _ _ c.put_parts.result c.reserve.ensures.items
    (first_written (link_view c.args.link.now) c.args.id c.args.format c.args.more c.args.payload.now c.front-front.result _ _ c.tag_in.result _ c.flag.result c.flag-2.result h.result.1 n.result.1 e.result.1
    c.front-front.ensures.octets h.ensures.octets n.ensures.octets c.tag_in.ensures e.ensures.octets c.flag.ensures c.flag-2.ensures h.ensures.size n.ensures.size e.ensures.size h.ensures.small n.ensures.small e.ensures.small)
    c.put_parts.ensures.appended
