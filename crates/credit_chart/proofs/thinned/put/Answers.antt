use Rattle.std.proofs.Common.{◌≡◌, ◌++◌, ◌∷◌, [], subst, sym, rules}
use Rattle.credit_chart.specs.Thinned.{AreColumns}
use Rattle.credit_chart.proofs.PutColumns.{put_here, put_new}
use Rattle.credit_chart.proofs.thinned.put.Goals as goal

pub returns-then-room-eq0-clause-placed : goal.returns-then-room-eq0-clause-placed
returns-then-room-eq0-clause-placed c = λ levels found is are.
    let items : c.push.new.self.items ≡ c.args.columns.now.items ++ c.args.column ∷ [] = search rules in
    let full : c.args.room ≡ 0 = search rules in
    subst (λ n. AreColumns (levels ++ found ∷ []) c.args.span n c.push.new.self.items) (sym c.saturating_sub.ensures)
    (subst (AreColumns (levels ++ found ∷ []) c.args.span _) (sym items) (put_new levels c.args.span c.args.room c.args.columns.now.items are found c.args.column is full))

pub returns-clause-placed : goal.returns-clause-placed
returns-clause-placed c = λ levels found is are.
    put_here levels c.args.span c.args.room c.args.columns.now.items are found c.args.column is c.if-room-eq0.false c.put_last.new.columns.items c.put_last.ensures.long c.put_last.ensures.put
