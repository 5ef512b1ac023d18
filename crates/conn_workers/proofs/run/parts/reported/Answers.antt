use Rattle.std.proofs.Common.{refl, sym, subst}
use Rattle.conn_engine.specs.Scripts.{octets_taken}
use Rattle.conn_workers.specs.Lines.{IsDone}
use Rattle.conn_workers.proofs.Gathered.{reported as is_reported}
use Rattle.conn_workers.proofs.run.parts.reported.Goals as goal

pub returns : goal.returns
returns g c =
    is_reported g.J.Origin.gates g.G.Gate.follows g.G.Gate.delivered g.G.Gate.took g.G.Gate.has_ended c.args._capture.now.records c.args._k c.args.seat _
    (subst (λ t. IsDone g.J.Origin.gates g.G.Gate.follows g.G.Gate.delivered g.G.Gate.took g.G.Gate.has_ended c.opened-gate.result.0 t c.args.seat) (sym c.new.ensures)
    (subst (λ s. IsDone g.J.Origin.gates g.G.Gate.follows g.G.Gate.delivered g.G.Gate.took g.G.Gate.has_ended c.opened-gate.result.0 (octets_taken c.opened-gate.result.1 s.frames.items) s) c.requires.same c.opened-gate.ensures))
    c.requires.agrees refl refl
