use Rattle.std.proofs.Common.{◌≡◌, rules}
use Rattle.conn_engine.specs.declared.engine_state.EngineState.TheVariants.{Reading}
use Rattle.conn_engine.proofs.FedOn.{fed_at}
use Rattle.conn_engine.proofs.GivenOn.{given_at}
use Rattle.conn_engine.proofs.engine.Engine.feed.Goals as goal

pub returns-in-Reading-clause-fed : goal.returns-in-Reading-clause-fed
returns-in-Reading-clause-fed g c fed h =
    let at : c.args.self.now.place ≡ Reading = search rules in
    fed_at Reading c.args.self.now c.read_piece.new.self fed c.args.piece.now c.read_piece.result at c.read_piece.ensures.did h

pub returns-in-Reading-clause-given : goal.returns-in-Reading-clause-given
returns-in-Reading-clause-given g c extent fed given ticks h =
    let at : c.args.self.now.place ≡ Reading = search rules in
    given_at Reading extent c.args.self.now c.read_piece.new.self fed given c.args.piece.now ticks c.read_piece.result at c.read_piece.ensures.frames c.read_piece.ensures.frame_ends c.read_piece.ensures.did h
