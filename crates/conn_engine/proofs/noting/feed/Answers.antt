use Rattle.std.proofs.Common.{ap, sym, ◌∙◌, length}
use Rattle.std.proofs.lemmas.Result.{on_ok_weaker}
use Rattle.conn_engine.proofs.NotedOn.{noted_fed}
use Rattle.conn_engine.proofs.noting.feed.Goals as goal

pub returns-clause-noted : goal.returns-clause-noted
returns-clause-noted g c =
    on_ok_weaker c.note_own.result
    (λ notes octets taken h.
    noted_fed c.args.engine.now c.feed.new.self (g.S.Notes.stands_for c.args.notes.now) (g.S.Notes.stands_for c.note_own.new.notes) octets c.args.piece.now taken _ c.feed.result c.requires c.feed.ensures.did c.feed.ensures.frames c.feed.ensures.frame_ends
    (sym c.stop_of.ensures ∙ c.in_default.is) (ap length c.give-before.ensures) notes h)
    c.note_own.ensures
