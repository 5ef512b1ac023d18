use Rattle.std.proofs.lemmas.Result.{IfOk-weaker}
use Rattle.credit_chart.proofs.Drawing.{five_panels, some_panels}
use Rattle.credit_chart.proofs.draw.draw_panels.Goals as goal

pub returns-clause-some : goal.returns-clause-some
returns-clause-some c =
    some_panels c.draw_panel-5.result c.args.drawing c.in_ok-credit.credit c.in_ok-window.window c.in_ok-waiting.waiting c.in_ok-unsettled.unsettled
    c.in_ok-credit.ensures.some c.in_ok-window.ensures.some c.in_ok-waiting.ensures.some c.in_ok-unsettled.ensures.some c.draw_panel-5.ensures.some

pub returns-clause-curves : goal.returns-clause-curves
returns-clause-curves c =
    IfOk-weaker c.draw_panel-5.result _ _ (λ after draws levels are is.
    five_panels levels c.args.drawing c.in_ok-credit.credit c.in_ok-window.window c.in_ok-waiting.waiting c.in_ok-unsettled.unsettled after
    (c.in_ok-credit.ensures.curve levels are is) (c.in_ok-window.ensures.curve levels are is) (c.in_ok-waiting.ensures.curve levels are is)
    (c.in_ok-unsettled.ensures.curve levels are is) (draws levels are is)) c.draw_panel-5.ensures.curve
