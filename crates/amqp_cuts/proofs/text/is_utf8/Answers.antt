use Rattle.std.proofs.Common.{sym, ◌∙◌, arith}
use Rattle.amqp_cuts.proofs.Characters.{utf8_behind, utf8_done}
use Rattle.amqp_cuts.proofs.text.is_utf8.Goals as goal

pub loop-place-preserved : goal.loop-place-preserved
loop-place-preserved g c =
    let within = c.in-Some.ensures.within in (
      omega (arith, within, c.loop-place.invariant.0),
      within.1,
      c.loop-place.invariant.2 ∙ utf8_behind (g.C.Cuts.octets c.args.payload.now) c.loop-place.place c.in-Some.next c.args.to (omega (arith, within)) within.1 c.in-Some.ensures.some,
    )

pub returns : goal.returns
returns g c = sym (c.loop-place.invariant.2 ∙ utf8_done (g.C.Cuts.octets c.args.payload.now) c.loop-place.place c.args.to c.loop-place-test.false)
