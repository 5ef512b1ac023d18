use Rattle.std.proofs.Common.{refl, ap, ◌∙◌, ◌++◌, List, ℕ}
use Rattle.conn_engine.specs.Scripts.{empty_frames}
use Rattle.conn_engine.proofs.Laced.{own_is, stands_begun}
use Rattle.conn_engine.proofs.script.Script.begin.Goals as goal

pub returns : goal.returns
returns c said is framed taken waiting h =
    stands_begun c.args.self.now _ _ framed taken waiting said c.in_ok-push.ensures.items
    (own_is _ ∙ ap (λ (t : List ℕ). t ++ empty_frames c.args.empties) c.in_ok-octets.ensures.items ∙ is) refl refl refl h
