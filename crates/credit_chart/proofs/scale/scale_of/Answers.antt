use Rattle.std.proofs.Common.{◌∙◌, ◌+◌, ◌-◌, ◌^◌, ap, min, subst, sym, ◌≤◌}
use Rattle.credit_chart.specs.declared.scale.TheConstants.{COLUMNS}
use Rattle.credit_chart.proofs.Spans.{count_few, count_is, scale_is}
use Rattle.credit_chart.proofs.scale.scale_of.Goals as goal

pub returns-clause-computed : goal.returns-clause-computed
returns-clause-computed c = λ is.
    scale_is c.args.records c.args.span c.saturating_add-count.result c.narrowed.result is
    (count_is c.args.records c.args.span c.ranges.records.fits is c.checked_div.result c.checked_div.ensures c.saturating_add-count.result
    (c.saturating_add-count.ensures ∙ ap (λ n. min (n + 1) (2 ^ 64 - 1)) c.unwrap_or.ensures)) c.narrowed.ensures

pub returns-clause-few : goal.returns-clause-few
returns-clause-few c = λ is.
    subst (λ n. n ≤ COLUMNS)
    (sym (count_is c.args.records c.args.span c.ranges.records.fits is c.checked_div.result c.checked_div.ensures c.saturating_add-count.result
    (c.saturating_add-count.ensures ∙ ap (λ n. min (n + 1) (2 ^ 64 - 1)) c.unwrap_or.ensures))) (count_few c.args.records c.ranges.records.fits)
