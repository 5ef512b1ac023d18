use Rattle.std.proofs.Common.{refl, subst, sym}
use Rattle.std.specs.Prelude.{IfSome}
use Rattle.capture_form.specs.Reading.{reading}
use Rattle.capture_chart.specs.Shown.{arrows_of, worded_of}
use Rattle.capture_chart.proofs.Drawings.{shown_worded}
use Rattle.show_program.specs.Charts.{AreAskedOf}
use Rattle.show_program.proofs.Charting.{asked_all}
use Rattle.show_program.proofs.charted.draw_read.Goals as goal

pub returns-in-Ok-clause-arrows : goal.returns-in-Ok-clause-arrows
returns-in-Ok-clause-arrows g c = λ choice also has.
    let known = g.R.Read.remaining c.args.input in
    let ending = c.read_all-ending.result in
    let first = c.args.charted.now in
    let charted = c.read_all-ending.new.charted in
    let all = asked_all first.asked.choice first.also.now known ending first charted c.if-charted.false (record { names = has.names; outcomes = has.outcomes; asks = refl; draws = refl; arrows = has.arrows }) c.read_all-ending.ensures.taken in
    let of_choice = subst (λ asks. IfSome known (λ text. AreAskedOf asks first.also.now (reading text).records ending (arrows_of charted.chart))) has.asks all in
    let of_both = subst (λ numbers. IfSome known (λ text. AreAskedOf choice numbers (reading text).records ending (arrows_of charted.chart))) has.draws of_choice in
    record {
      arrows = worded_of charted.chart;
      drawn = c.in-Ok.ensures.arrows;
      asked = subst (λ shows. IfSome known (λ text. AreAskedOf choice also (reading text).records ending shows)) (sym (shown_worded charted.chart.arrows.items)) of_both;
    }
