use Rattle.std.specs.Option.{option_copied}
use Rattle.route_dues.proofs.ShortFrames.{decided_again, decided_written, puts_same}
use Rattle.route_dues.proofs.short.put_decided.Goals as goal

pub returns-in_err-reserve-clause-again : goal.returns-in_err-reserve-clause-again
returns-in_err-reserve-clause-again c = decided_again c.args.channel c.args.role c.args.id c.front-front.ensures.fits (c.uint_in-id_size.ensures.can 29)

pub returns-clause-again : goal.returns-clause-again
returns-clause-again c = decided_again c.args.channel c.args.role c.args.id c.front-front.ensures.fits (c.uint_in-id_size.ensures.can 29)

pub returns-clause-appended : goal.returns-clause-appended
returns-clause-appended c =
    let n = c.uint_in-id_size in
    puts_same c.args.out.now.items c.put_parts.new.out.items _ _ _ c.put_parts.result c.reserve.ensures.items
    (decided_written c.args.channel c.args.role c.args.id (option_copied c.args.state) c.front-front.result _ c.octets_if-octets.result.now c.role_octet.result n.result.1 c.count_with.result c.front-front.ensures.octets c.role_octet.ensures
    n.ensures.octets c.octets_if-octets.ensures c.count_with.ensures n.ensures.size n.ensures.small c.requires.short)
    c.put_parts.ensures.appended
