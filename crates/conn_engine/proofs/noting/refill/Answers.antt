use Rattle.std.proofs.Common.{refl}
use Rattle.conn_engine.proofs.NotedOn.{noted_refilled}
use Rattle.conn_engine.proofs.noting.refill.Goals as goal

pub returns-in-Ok-framed-clause-noted : goal.returns-in-Ok-framed-clause-noted
returns-in-Ok-framed-clause-noted g c octets taken h =
    noted_refilled c.args.engine.now c.refill.new.self (g.S.Notes.stands_for c.args.notes.now) (g.S.Notes.stands_for c.framed.new.self) octets taken _ c.refill.ensures.took c.refill.ensures.same
    (rw (c.give.ensures, c.give-before.ensures) refl) c.in-Ok-framed.ensures h
