use Rattle.conn_engine.proofs.GivenOn.{given_refilled}
use Rattle.conn_engine.proofs.engine.Engine.refill.Goals as goal

pub returns-clause-given : goal.returns-clause-given
returns-clause-given g c extent fed given ticks h = given_refilled extent c.args.self.now c.take_due_frames.new.self fed given ticks c.take_due_frames.ensures.took c.take_due_frames.ensures.same h
