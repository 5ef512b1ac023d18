use Rattle.std.proofs.Common.{sym}
use Rattle.amqp_frames.specs.Held.{octets_of}
use Rattle.amqp_frames.proofs.Streams.{fewer_left}
use Rattle.amqp_frames.proofs.pieces.take_frames.Goals as goal

pub loop-frame-smaller : goal.loop-frame-smaller
loop-frame-smaller c =
    let holds = c.next.follows.holds-at-none in
    let answer = rw c.in-Ok-Some.field-0-is at c.in-Ok-Some.ensures.answer in
    let fewer = fewer_left c.loop-frame.splitter c.in-Ok-Some.frame.now (sym answer) in
    rw holds.0 fewer

pub returns-in-Ok-None : goal.returns-in-Ok-None
returns-in-Ok-None c =
    let holds = c.next.follows.holds-at-none in
    λ stream after.
    let tells = holds.1 stream (octets_of c.loop-frame.frames) (c.loop-frame.invariant stream after) in
    rw (c.in-Ok-None.is, c.in-Ok-None.field-0-is) at tells
