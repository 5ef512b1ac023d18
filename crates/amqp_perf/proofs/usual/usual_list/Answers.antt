use Rattle.std.proofs.Common.{slice_index_or, refl, sym, arith}
use Rattle.amqp_perf.proofs.UsualFields.{usual_front}
use Rattle.amqp_perf.proofs.usual.usual_list.Goals as goal

pub returns : goal.returns
returns c =
    usual_front c.args.octets.now (slice_index_or c.args.octets.now 2 0) c.from-size.result (record { left = slice_index_or c.args.octets.now 5 0; octets = c.split_at.result.0 }) c.split_at.result.1.now
    (omega (arith, c.if-octets-lt6.false)) c.if-octets-ne0.false c.if-octets-ne83.false refl c.if-octets.false (sym c.from-size.ensures) refl (omega (arith, c.from.ensures, c.if-from-size.false)) c.if-behind-size.false c.split_at.ensures.front c.split_at.ensures.back
