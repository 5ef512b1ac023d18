use Rattle.std.proofs.Common.{ap, length}
use Rattle.std.proofs.lemmas.Result.{on_ok_weaker}
use Rattle.conn_engine.proofs.NotedOn.{noted_ticked}
use Rattle.conn_engine.proofs.noting.tick.Goals as goal

pub returns-clause-noted : goal.returns-clause-noted
returns-clause-noted g c =
    on_ok_weaker c.note_own.result
    (λ notes octets taken h.
    noted_ticked c.args.moment c.args.engine.now c.tick.new.self (g.S.Notes.stands_for c.args.notes.now) (g.S.Notes.stands_for c.note_own.new.notes) octets taken _ c.tick.result c.tick.ensures.did (ap length c.give-before.ensures) notes h)
    c.note_own.ensures
