use Rattle.capture_chart.specs.Shown.{shown}
use Rattle.capture_chart.proofs.Titles.{title_is}
use Rattle.capture_chart.proofs.arrow.Arrow.title.Goals as goal

pub returns : goal.returns
returns c =
    title_is c.args.mark (shown c.args.self.now) _ _ _ _ _ _ _ _ _ _ _ c.in_ok-title.ensures.ok c.format.ensures.text c.in_ok-push_str.ensures.bytes
    c.in_ok-push_str-2.ensures.bytes c.format-2.ensures.text c.in_ok-push_str-3.ensures.bytes c.words.ensures c.in_ok-push_str-4.ensures.bytes c.words-2.ensures
    c.in_ok-push_str-5.ensures.bytes c.words-3.ensures
