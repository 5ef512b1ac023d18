use Rattle.std.proofs.Common.{ap}
use Rattle.conn_engine.specs.Scripts.{StandsFor}
use Rattle.conn_engine.proofs.ServedOn.{open_new}
use Rattle.conn_workers.proofs.line.Line.new.Goals as goal

pub invariant_of-result : goal.invariant_of-result
invariant_of-result g c = (
  record { start = c.start.inside.gate; given = c.start.invariant.0; follows = g.met.G.Gate.follows_itself _ },
  ap (λ e. e.number) c.new.ensures.value,
  open_new g.G.Gate.delivered g.G.Gate.took c.start.inside.gate c.start.inside.conn _ _ _ c.new.result (StandsFor c.new-2.result)
      c.new.ensures.value c.requires.items c.requires.frames c.new-2.ensures c.start.invariant.1 c.start.invariant.2,
)
