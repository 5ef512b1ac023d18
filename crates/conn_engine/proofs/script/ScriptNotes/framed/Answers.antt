use Rattle.std.proofs.Common.{refl, sym, ap, ◌∙◌, ◌+◌, ℕ}
use Rattle.conn_engine.proofs.Laced.{stands_framed}
use Rattle.conn_engine.proofs.script.ScriptNotes.framed.Goals as goal

pub returns-in-Some : goal.returns-in-Some
returns-in-Some c framed taken waiting more long h = stands_framed c.args.self.now _ framed taken waiting more refl (c.in-Some.ensures.1 ∙ ap (λ (n : ℕ). c.args.self.now.behind + n) (sym long)) refl h
