use Rattle.svg_text.proofs.Drawings.{if_draws_then}
use Rattle.capture_chart.proofs.lanes.draw_lane.Goals as goal

pub returns : goal.returns
returns c = if_draws_then c.draw_label.result c.args.drawing c.in_ok-lined.lined _ _ c.in_ok-lined.ensures c.draw_label.ensures
