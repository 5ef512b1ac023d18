use Rattle.std.proofs.Common.{◌∙◌}
use Rattle.conn_engine.proofs.FramesOn.{fewer, took_more}
use Rattle.conn_engine.proofs.taking.take_all_frames.Goals as goal

pub loop-port-preserved : goal.loop-port-preserved
loop-port-preserved g c = record {
  took =
      took_more (g.P.Port.frames c.args.port.now) (g.P.Port.frames c.loop-port.port) (g.P.Port.frames c.take_frame.new.port) c.args.output.now c.loop-port.output c.take_frame.new.output
      c.args.frame_ends.now c.loop-port.frame_ends c.take_frame.new.frame_ends c.loop-port.next c.take_frame.new.next c.loop-port.invariant.took (rw c.in-Ok-true.field-0-test at c.in-Ok-true.ensures.ok);
  items = c.take_frame.ensures.items ∙ c.loop-port.invariant.items;
  connection = c.take_frame.ensures.connection ∙ c.loop-port.invariant.connection;
}

pub loop-port-smaller : goal.loop-port-smaller
loop-port-smaller g c =
    let one = rw c.in-Ok-true.field-0-test at c.in-Ok-true.ensures.ok in
    fewer c.loop-port.next c.take_frame.new.next one.4 one.5
