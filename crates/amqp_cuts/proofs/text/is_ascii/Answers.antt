use Rattle.std.proofs.Common.{sym, subst, ◌∙◌, ◌+◌, length, arith}
use Rattle.std.specs.Str.{IsAscii, IsNotAscii}
use Rattle.amqp_cuts.proofs.Characters.{ascii_behind, ascii_stops}
use Rattle.amqp_cuts.proofs.text.is_ascii.Goals as goal

pub returns-then-not-is_ascii : goal.returns-then-not-is_ascii
returns-then-not-is_ascii g c =
    let all = g.C.Cuts.octets c.args.payload.now in
    let place = c.loop-place.place in
    sym (c.loop-place.invariant.2
    ∙ ascii_stops all place (place + length c.part-part.result.now) c.args.to (omega arith) c.part-part.ensures.within (subst IsNotAscii c.part-part.ensures.exact c.if-not-is_ascii.ensures.cases))

pub loop-place-preserved : goal.loop-place-preserved
loop-place-preserved g c =
    let all = g.C.Cuts.octets c.args.payload.now in
    let place = c.loop-place.place in (
      omega (arith, c.loop-place.invariant.0),
      c.part-part.ensures.within,
      c.loop-place.invariant.2
          ∙ ascii_behind all place (place + length c.part-part.result.now) c.args.to (omega arith) c.part-part.ensures.within (subst IsAscii c.part-part.ensures.exact c.if-not-is_ascii.ensures.cases),
    )
