use Rattle.capture_view.specs.Viewed.{viewed}
use Rattle.show_program.proofs.Charting.{takes_asked}
use Rattle.show_program.proofs.charted.Charted.take.Goals as goal

pub returns : goal.returns
returns c = λ choice also.
    takes_asked choice also c.args.self.now c.add.new.self _ _ (viewed c.args.view.now) c.in_ok-told.told c.in_ok-is_asked.is_asked c.in_ok-add.ensures.asked c.in_ok-add.ensures.also c.in_ok-add.ensures.outcomes
    c.in_ok-is_asked.ensures.names c.in_ok-told.ensures.tables c.in_ok-told.ensures.told c.in_ok-is_asked.ensures.choice c.in_ok-is_asked.ensures.answer c.in_ok-add.ensures.few
    (λ enough. let drawn = c.is_drawn-is_drawn.ensures in cc (c.in_ok-add.ensures.arrows enough, drawn))
