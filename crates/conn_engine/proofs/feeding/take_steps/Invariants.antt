use Rattle.std.proofs.Common.{◌≡◌, [], length}
use Rattle.conn_engine.specs.Feeding.{feed_state, Went}
use Rattle.conn_engine.proofs.feeding.take_steps.Given as goal

abbrev pub invariant-loop-fault : goal.invariant-loop-fault
invariant-loop-fault g l = record {
  went : Went (feed_state (g.P.Port.items l.fn.port) l.fn.reader l.fn.output l.fn.time_out) (feed_state (g.P.Port.items l.port) l.reader l.output l.time_out) [] [];
  frames : g.P.Port.frames l.port ≡ g.P.Port.frames l.fn.port;
  connection : g.P.Port.connection l.port ≡ g.P.Port.connection l.fn.port;
}

abbrev pub decreases-loop-fault : goal.decreases-loop-fault
decreases-loop-fault g l = length l.reader.octets
