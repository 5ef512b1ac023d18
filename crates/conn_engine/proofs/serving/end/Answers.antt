use Rattle.std.proofs.Common.{sym, ◌∙◌}
use Rattle.conn_engine.proofs.ServedOn.{served_gone}
use Rattle.conn_engine.proofs.serving.end.Goals as goal

pub returns-in-None-clause-holds : goal.returns-in-None-clause-holds
returns-in-None-clause-holds g c =
    served_gone g.G.Gate.delivered g.G.Gate.took g.G.Gate.has_ended c.args.gate.now c.shut.new.self c.args.engine.now c.gone-told.new.self (g.S.Notes.stands_for c.args.notes.now) c.gone-told.result
    c.requires c.gone-told.ensures.did (sym c.stop_of.ensures ∙ c.in-None.is) c.shut.ensures.delivered c.shut.ensures.took c.shut.ensures.ended
