use Rattle.std.proofs.Common.{refl}
use Rattle.std.specs.Prelude.{codes}
use Rattle.capture_chart.proofs.Drawings.{group_is, outcome_drawn}
use Rattle.capture_chart.proofs.arrows.draw_outcome.Goals as goal

pub returns : goal.returns
returns c =
    outcome_drawn c.end.result c.args.drawing c.in_ok-opened.opened c.in_ok-titled.titled c.in_ok-lined.lined _ _ c.args.place c.args.delivery c.between.result
    c.in_ok-opened.ensures (group_is _ (codes "outcome") refl) c.in_ok-titled.ensures c.in_ok-lined.ensures c.between.ensures c.end.ensures
