use Rattle.std.proofs.Common.{◌≡◌, ◌-◌, ◌^◌}
use Rattle.conn_engine.specs.Taking.{TookFrames}
use Rattle.conn_engine.proofs.taking.take_all_frames.Given as goal

abbrev pub invariant-loop-port : goal.invariant-loop-port
invariant-loop-port g l = record {
  took : TookFrames (g.P.Port.frames l.fn.port) (g.P.Port.frames l.port) l.fn.output l.output l.fn.frame_ends l.frame_ends;
  items : g.P.Port.items l.port ≡ g.P.Port.items l.fn.port;
  connection : g.P.Port.connection l.port ≡ g.P.Port.connection l.fn.port;
}

abbrev pub decreases-loop-port : goal.decreases-loop-port
decreases-loop-port g l = 2 ^ 64 - l.next
