use Rattle.std.proofs.Common.{sym, subst, take}
use Rattle.stream_reading.specs.declared.step.Event.{Event}
use Rattle.stream_reading.specs.declared.step.Phase.TheVariants as phases
use Rattle.stream_reading.specs.Stream.{MayStand}
use Rattle.stream_reading.proofs.Fronts.{begins, header_first}
use Rattle.stream_reading.proofs.stream.first_header.Goals as goal

pub returns-in-Some : goal.returns-in-Some
returns-in-Some c =
    let octets = take 8 c.args.octets.now in
    (subst (λ (event : Event). MayStand phases.FirstHeader event octets) (sym c.event_of-event.ensures) (header_first c.in-Some.header octets c.in-Some.ensures.found), begins 8 c.args.octets.now)
