use Rattle.std.proofs.Common.{◌∙◌, []}
use Rattle.conn_engine.specs.Feeding.{feed_state}
use Rattle.conn_engine.proofs.Going.{stopped_on, went_on}
use Rattle.conn_engine.proofs.feeding.take_steps.Goals as goal

pub loop-fault-preserved : goal.loop-fault-preserved
loop-fault-preserved g c = record {
  went =
      went_on (feed_state (g.P.Port.items c.args.port.now) c.args.reader.now c.args.output.now c.args.time_out.now) (feed_state (g.P.Port.items c.loop-fault.port) c.loop-fault.reader c.loop-fault.output c.loop-fault.time_out)
      (feed_state (g.P.Port.items c.take_step.new.port) c.take_step.new.reader c.take_step.new.output c.take_step.new.time_out) [] [] c.loop-fault.invariant.went (rw c.in-Ok-true.field-0-test at c.in-Ok-true.ensures.told).0;
  frames = c.take_step.ensures.frames ∙ c.loop-fault.invariant.frames;
  connection = c.take_step.ensures.connection ∙ c.loop-fault.invariant.connection;
}

pub returns-in-Err-clause-told : goal.returns-in-Err-clause-told
returns-in-Err-clause-told g c =
    stopped_on (feed_state (g.P.Port.items c.args.port.now) c.args.reader.now c.args.output.now c.args.time_out.now) (feed_state (g.P.Port.items c.loop-fault.port) c.loop-fault.reader c.loop-fault.output c.loop-fault.time_out)
    (feed_state (g.P.Port.items c.take_step.new.port) c.take_step.new.reader c.take_step.new.output c.take_step.new.time_out) c.in-Err.fault c.loop-fault.invariant.went c.in-Err.ensures.told
