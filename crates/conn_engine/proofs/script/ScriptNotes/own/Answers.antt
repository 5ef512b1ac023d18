use Rattle.std.proofs.Common.{◌≡◌, sym, subst, ◌∙◌, List, ℕ, ◌++◌, OnOk}
use lib.Pointwise.{bytes_decides}
use Rattle.conn_engine.specs.Scripts.{StandsFor}
use Rattle.conn_engine.specs.Silence.{empty_frame}
use Rattle.conn_engine.proofs.Laced.{octets_alone, of_ok, where_ok}
use Rattle.conn_engine.proofs.script.ScriptNotes.own.Goals as goal

pub returns-then-eq : goal.returns-then-eq
returns-then-eq c =
    let same : c.args.octets.now ≡ empty_frame = (bytes_decides c.args.octets.now c.as_slice.result.now).0 (sym c.eq.ensures ∙ c.if-eq.true) ∙ c.as_slice.ensures in
    subst (λ (t : List ℕ). OnOk c.own_empty.result ((framed taken waiting : List ℕ) → StandsFor c.args.self.now framed taken waiting → StandsFor c.own_empty.new.self framed taken (waiting ++ t))) (sym same) c.own_empty.ensures

pub returns : goal.returns
returns c = where_ok c.begin.result _ (λ ok. of_ok c.begin.result _ c.begin.ensures ok c.args.octets.now (octets_alone c.args.octets.now))
