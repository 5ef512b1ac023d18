use Rattle.conn_engine.specs.Silence.{empty_frame}
use Rattle.conn_engine.proofs.Laced.{empty_alone, of_ok, where_ok}
use Rattle.conn_engine.proofs.script.Script.own_empty.Goals as goal

pub returns-else-self-eq0 : goal.returns-else-self-eq0
returns-else-self-eq0 c = where_ok c.begin.result _ (λ ok. of_ok c.begin.result _ c.begin.ensures ok empty_frame empty_alone)
