use Rattle.std.proofs.Common.{ap, sym, ◌∙◌}
use Rattle.credit_chart.specs.Thinning.{column_of}
use Rattle.credit_chart.proofs.Drawing.{comes_more, path_more}
use Rattle.credit_chart.proofs.path.path_of.Goals as goal

pub loop-column-preserved : goal.loop-column-preserved
loop-column-preserved c =
    let column = c.loop-column.column in
    record {
      text = λ levels are spans.
          path_more c.args.quantity levels c.args.scale c.args.top column _ _ c.loop-column.is_down c.extent-extent.result
          (c.loop-column.invariant.text levels are spans) (c.loop-column.invariant.down levels are spans)
          (c.extent-extent.ensures.computed levels are ∙ ap (λ n. column_of c.args.quantity n levels column) (sym spans)) c.in_ok-put_column.ensures;
      down = λ levels are spans.
          comes_more c.args.quantity levels c.args.scale column c.extent-extent.result c.is_some-is_down.result
          (c.extent-extent.ensures.computed levels are ∙ ap (λ n. column_of c.args.quantity n levels column) (sym spans)) c.is_some-is_down.ensures;
    }
