use Rattle.std.proofs.Common.{refl}
use Rattle.conn_engine.proofs.Laced.{empty_joined}
use Rattle.conn_engine.proofs.script.Own.add_empty.Goals as goal

pub returns-in-Some-clause-more : goal.returns-in-Some-clause-more
returns-in-Some-clause-more c = empty_joined c.args.self.now _ refl c.in-Some.ensures.1
