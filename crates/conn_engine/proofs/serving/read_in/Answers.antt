use Rattle.conn_engine.proofs.ServedOn.{open_fed}
use Rattle.conn_engine.proofs.serving.read_in.Goals as goal

pub returns-in-Ok-clause-holds : goal.returns-in-Ok-clause-holds
returns-in-Ok-clause-holds g c =
    open_fed g.G.Gate.delivered g.G.Gate.took c.args.gate.now c.read.new.self c.args.engine.now c.feed.new.engine (g.S.Notes.stands_for c.args.notes.now) (g.S.Notes.stands_for c.feed.new.notes) _
    c.in-Octets.ensures.delivered.1 c.in-Octets.ensures.took c.in-Ok.ensures.noted
