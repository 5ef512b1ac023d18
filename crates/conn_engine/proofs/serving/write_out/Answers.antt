use Rattle.std.proofs.Common.{List, ℕ, take, subst}
use Rattle.conn_engine.specs.Device.{TellsMore}
use Rattle.conn_engine.proofs.ServedOn.{open_written}
use Rattle.conn_engine.proofs.serving.write_out.Goals as goal

pub returns-in-Took-clause-holds : goal.returns-in-Took-clause-holds
returns-in-Took-clause-holds g c =
    open_written g.G.Gate.delivered g.G.Gate.took c.args.gate.now c.write.new.self c.args.engine.now c.gave.new.engine (g.S.Notes.stands_for c.args.notes.now) (g.S.Notes.stands_for c.gave.new.notes) c.in-Took.n
    c.in-Took.ensures.delivered (subst (λ (t : List ℕ). TellsMore g.G.Gate.took (take c.in-Took.n t) c.args.gate.now c.write.new.self) c.give-2.ensures c.in-Took.ensures.took.1)
    c.gave.ensures.noted
