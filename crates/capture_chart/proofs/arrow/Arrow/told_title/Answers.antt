use Rattle.capture_chart.specs.Shown.{shown}
use Rattle.capture_chart.proofs.Titles.{told_title_is}
use Rattle.capture_chart.proofs.arrow.Arrow.told_title.Goals as goal

pub returns : goal.returns
returns c =
    told_title_is c.args.number (shown c.args.self.now) _ _ _ _ _ c.in_ok-words.ensures.ok c.format.ensures.text c.in_ok-push_str.ensures.bytes c.in_ok-push_str-2.ensures.bytes c.format-2.ensures.text
