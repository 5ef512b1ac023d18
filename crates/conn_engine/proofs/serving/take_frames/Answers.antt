use Rattle.std.proofs.lemmas.Result.{on_ok_weaker}
use Rattle.conn_engine.proofs.ServedOn.{open_noted}
use Rattle.conn_engine.proofs.serving.take_frames.Goals as goal

pub returns-in-Ok-clause-holds : goal.returns-in-Ok-clause-holds
returns-in-Ok-clause-holds g c =
    on_ok_weaker c.tick.result
    (λ noted h.
    open_noted g.G.Gate.delivered g.G.Gate.took c.args.gate.now c.refill.new.engine c.tick.new.engine (g.S.Notes.stands_for c.refill.new.notes) (g.S.Notes.stands_for c.tick.new.notes) noted
    (open_noted g.G.Gate.delivered g.G.Gate.took c.args.gate.now c.args.engine.now c.refill.new.engine (g.S.Notes.stands_for c.args.notes.now) (g.S.Notes.stands_for c.refill.new.notes) c.in-Ok.ensures.noted h))
    c.tick.ensures.noted
