use Rattle.conn_engine.specs.Served.{IsOpen}
use Rattle.conn_engine.proofs.ServedOn.{on_ok_behind}
use Rattle.conn_engine.proofs.serving.advance.Goals as goal

pub returns-in-Ok-clause-holds : goal.returns-in-Ok-clause-holds
returns-in-Ok-clause-holds g c =
    on_ok_behind (IsOpen g.G.Gate.delivered g.G.Gate.took c.move_octets.new.gate c.move_octets.new.engine (g.S.Notes.stands_for c.move_octets.new.notes)) c.move_octets.result
    c.in-Ok.ensures.holds c.move_octets.ensures.holds
