use Rattle.std.proofs.Common.{◌+◌, ◌-◌, length, ap, refl, subst, sym, ◌∙◌}
use Rattle.std.proofs.lemmas.Result.{IfOk-weaker}
use Rattle.credit_chart.specs.declared.scale.Scale.{Scale}
use Rattle.credit_chart.specs.Curves.{curve_text}
use Rattle.credit_chart.specs.Places.{count_of, scale_of}
use Rattle.credit_chart.specs.Paths.{path_text}
use Rattle.svg_text.specs.Parts.{Draws}
use Rattle.svg_text.proofs.Drawings.{some_of}
use Rattle.credit_chart.proofs.Drawing.{group_is, panel_drawn, panel_of}
use Rattle.credit_chart.proofs.panel.draw_panel.Goals as goal

pub returns : goal.returns
unfolding curve_text
returns c =
    let quantity = c.args.quantity in
    let drawn =
    panel_drawn c.end.result quantity c.top-top.result _ c.args.drawing c.in_ok-opened.opened c.in_ok-titled.titled c.in_ok-headed.headed c.in_ok-ruled.ruled c.in_ok-drawn.drawn
    _ _ _ _ c.bottom_of-bottom.result c.saturating_sub.result
    c.in_ok-opened.ensures (group_is c.class.result quantity c.class.ensures)
    c.bottom_of-bottom.ensures (c.saturating_sub.ensures ∙ ap (λ n. c.bottom_of-bottom.result - (n + 8)) c.height_of.ensures)
    c.in_ok-titled.ensures c.name.ensures
    c.in_ok-headed.ensures (c.as_str.ensures.value ∙ c.in_ok-words.ensures)
    c.in_ok-ruled.ensures
    c.in_ok-drawn.ensures refl
    c.end.ensures in
    record {
      some = IfOk-weaker c.end.result _ _ (λ after draws. some_of c.args.drawing after _ draws) drawn;
      curve = IfOk-weaker c.end.result _ _ (λ after draws levels are is.
          let top = c.top-top.ensures.computed levels are in
          subst (Draws c.args.drawing after) (panel_of levels quantity c.top-top.result _ top
          (c.as_str-2.ensures.value
          ∙ (c.in_ok-along.ensures levels are (ap (λ (s : Scale). s.span) is ∙ sym are.span)
          ∙ (ap (λ (s : Scale). path_text quantity levels s c.top-top.result s.count) is
          ∙ ap (λ n. path_text quantity levels (scale_of (length levels)) n (count_of (length levels))) top)))) draws) drawn;
    }
