use Rattle.std.proofs.Common.{ap, ◌∙◌, ◌++◌, List, ℕ}
use Rattle.conn_engine.proofs.Laced.{of_ok, own_put, where_ok}
use Rattle.conn_engine.proofs.script.Own.put.Goals as goal

pub returns : goal.returns
returns c =
    where_ok c.put_empties.result _
    (λ ok. own_put c.args.self.now c.args.out.now.items c.extend_from_slice.new.self.items c.put_empties.new.out.items
    (c.in_ok-extend_from_slice.ensures.items ∙ ap (λ (t : List ℕ). c.args.out.now.items ++ t) c.deref.ensures.value)
    (of_ok c.put_empties.result _ c.put_empties.ensures ok))
