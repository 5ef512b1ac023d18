use Rattle.std.proofs.Common.{subst, sym, ap, ◌∙◌, get_or, None}
use Rattle.credit_chart.specs.Thinning.{IsColumn, extent_in, levels_at, values_of}
use Rattle.credit_chart.proofs.Extents.{column_kept}
use Rattle.credit_chart.proofs.thinned.Thinned.extent.Goals as goal

pub returns-clause-kept : goal.returns-clause-kept
returns-clause-kept c = λ levels are.
    let values = values_of c.args.quantity (levels_at c.args.self.now.span levels c.args.place) in
    subst (IsColumn values)
    (sym (c.extent_of.ensures
    ∙ (ap (extent_in c.args.quantity) (c.at.ensures ∙ ap (λ t. get_or t c.args.place None) c.as_slice.ensures.value) ∙ are.columns.extents c.args.quantity c.args.place)))
    (column_kept values)
