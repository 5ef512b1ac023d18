use Rattle.std.proofs.Common.{◌∙◌, arith}
use Rattle.amqp_cuts.proofs.Names.{same_name, other_name}
use Rattle.amqp_cuts.proofs.section.is_name.Goals as goal

pub returns-then-octet_of-octet : goal.returns-then-octet_of-octet
returns-then-octet_of-octet g c =
    other_name (g.C.Cuts.octets c.args.payload.now) c.args.name.now c.args.at c.args.to c.loop-i.i c.loop-i.invariant.0 c.loop-i-test.true
    (λ same. c.if-octet_of-octet.true (c.octet_of.ensures ∙ same))

pub returns : goal.returns
returns g c =
    same_name (g.C.Cuts.octets c.args.payload.now) c.args.name.now c.args.at c.args.to c.loop-i.i c.loop-i.invariant.0 c.requires.order (omega (arith, c.loop-i-test.false, c.loop-i.auto.i-end)) c.loop-i.invariant.1
