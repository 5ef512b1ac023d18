use Rattle.std.proofs.Common.{subst, ◌∙◌}
use Rattle.std.proofs.lemmas.Result.{IfOk-weaker}
use Rattle.std.specs.String.{string_bytes}
use Rattle.credit_chart.specs.Curves.{HasCurves}
use Rattle.credit_levels.specs.Levels.{levels_of}
use Rattle.credit_levels.proofs.drawing.draw_at.Goals as goal

pub returns-clause-curves : goal.returns-clause-curves
returns-clause-curves c =
    IfOk-weaker c.draw_levels.result _ _ (λ text draws pick rules history are.
    subst (λ t. HasCurves t (levels_of pick rules history) (string_bytes text)) (c.as_str.ensures.value ∙ c.in_ok-words.ensures)
    (draws (levels_of pick rules history) (c.levels.ensures pick rules history are))) c.draw_levels.ensures.curves
