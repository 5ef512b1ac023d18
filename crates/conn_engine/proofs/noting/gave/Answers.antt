use Rattle.conn_engine.proofs.NotedOn.{noted_given}
use Rattle.conn_engine.proofs.noting.gave.Goals as goal

pub returns-clause-noted : goal.returns-clause-noted
returns-clause-noted g c octets taken h =
    noted_given c.args.engine.now c.gave-2.new.self (g.S.Notes.stands_for c.args.notes.now) (g.S.Notes.stands_for c.gave.new.self) octets taken c.args.n c.gave-2.ensures.value c.requires.waiting c.gave.ensures h
