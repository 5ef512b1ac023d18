use Rattle.std.proofs.Common.{◌∙◌, arith}
use Rattle.std.proofs.lemmas.List.{length-set}
use Rattle.amqp_cuts.proofs.Windows.{octet_copied}
use Rattle.amqp_cuts.proofs.text.four_octets.Goals as goal

pub loop-i-preserved : goal.loop-i-preserved
loop-i-preserved g c =
    let now = c.loop-i.invariant in (
      length-set c.loop-i.octets c.loop-i.i c.octet_of.result ∙ now.0,
      octet_copied (g.C.Cuts.octets c.args.payload.now) c.loop-i.octets c.args.at c.loop-i.i c.octet_of.result (omega (arith, now.0, c.loop-i-test.true, c.min-count.ensures)) (omega (arith, c.loop-i-test.true, c.min-count.ensures, c.requires.room)) now.1 c.octet_of.ensures,
    )
