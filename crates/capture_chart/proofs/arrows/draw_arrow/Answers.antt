use Rattle.std.proofs.Common.{List, ℕ, ◌+◌, ◌-◌, subst, ◌∙◌}
use Rattle.svg_text.specs.declared.element.Element.TheVariants.{Description}
use Rattle.capture_chart.specs.declared.places.TheConstants.{ROUTER}
use Rattle.capture_chart.specs.Marks.{class_of}
use Rattle.capture_chart.specs.Shown.{Worded, worded}
use Rattle.svg_text.specs.Parts.{Draws, element_octets, label_octets}
use Rattle.capture_chart.proofs.Drawings.{arrow_drawn, group_is}
use Rattle.capture_chart.proofs.arrows.draw_arrow.Goals as goal

pub returns : goal.returns
returns c =
    let arrow : Worded = worded c.args.arrow.now in
    let described : Draws c.in_ok-titled.titled c.in_ok-described.described (element_octets Description arrow.words) =
    subst (λ (w : List ℕ). Draws c.in_ok-titled.titled c.in_ok-described.described (element_octets Description w)) c.as_str-2.ensures.value c.in_ok-described.ensures in
    let placed : Draws c.in_ok-shot.shot c.in_ok-labelled.labelled (label_octets (ROUTER + 8, c.args.place.row - 4) c.as_str-3.result.now) =
    subst (λ (n : ℕ). Draws c.in_ok-shot.shot c.in_ok-labelled.labelled (label_octets (ROUTER + 8, n) c.as_str-3.result.now)) c.saturating_sub.ensures c.in_ok-labelled.ensures in
    let labelled : Draws c.in_ok-shot.shot c.in_ok-labelled.labelled (label_octets (ROUTER + 8, c.args.place.row - 4) arrow.label) =
    subst (λ (w : List ℕ). Draws c.in_ok-shot.shot c.in_ok-labelled.labelled (label_octets (ROUTER + 8, c.args.place.row - 4) w)) c.as_str-3.ensures.value placed in
    arrow_drawn c.end.result c.args.drawing c.in_ok-opened.opened c.in_ok-titled.titled c.in_ok-described.described c.in_ok-tied.tied c.in_ok-told.told c.in_ok-shot.shot c.in_ok-labelled.labelled
    _ _ arrow c.args.place c.in_ok-opened.ensures (group_is c.class.result (class_of c.args.place.mark) c.class.ensures) c.in_ok-titled.ensures (c.as_str.ensures.value ∙ c.in_ok-title.ensures)
    described c.in_ok-tied.ensures c.in_ok-told.ensures c.in_ok-shot.ensures labelled c.end.ensures
