use Rattle.std.proofs.Common.{length, ap, ◌∙◌}
use Rattle.std.specs.String.{string_bytes}
use Rattle.credit_chart.specs.Curves.{records_words}
use Rattle.credit_chart.specs.Thinned.{AreThinned}
use Rattle.credit_chart.proofs.Drawing.{document_drawn, drawn_scale}
use Rattle.credit_chart.proofs.draw.draw_levels.Goals as goal

pub returns-clause-curves : goal.returns-clause-curves
returns-clause-curves c =
    document_drawn string_bytes c.finish.result c.args.title.now _ _ (λ levels. AreThinned levels c.args.thinned.now) c.in_ok-started.started c.in_ok-titled.titled c.in_ok-styled.styled c.in_ok-headed.headed c.in_ok-drawn.drawn c.in_ok-labelled.labelled
    c.in_ok-started.ensures c.in_ok-titled.ensures c.in_ok-styled.ensures c.in_ok-headed.ensures
    (λ levels are. c.in_ok-drawn.ensures.curves levels are (drawn_scale c.scale_of-scale.result c.records.result c.span.result (length levels) c.scale_of-scale.ensures.computed (c.records.ensures levels are) (c.span.ensures ∙ are.span)))
    c.in_ok-labelled.ensures
    (λ levels are. c.as_str.ensures.value ∙ (c.in_ok-words.ensures ∙ ap records_words (c.records-2.ensures levels are))) c.finish.ensures.text
