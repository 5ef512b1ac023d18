use Rattle.std.proofs.Common.{List, ℕ, ◌++◌, ap, get_or, sym, subst, take, ◌∙◌, append_assoc, append-nil}
use Rattle.std.proofs.lemmas.List.{take_all}
use Rattle.std.specs.Prelude.{codes}
use Rattle.capture_chart.specs.declared.places.TheConstants.{FIRST_LANE, LANE, ROUTER}
use Rattle.capture_chart.specs.Places.{count_place}
use Rattle.svg_text.specs.Parts.{Draws}
use Rattle.capture_chart.specs.Drawn.{connection_words, lane_octets, lanes_octets}
use Rattle.capture_chart.proofs.LaneLemmas.{lanes_drawn_more}
use Rattle.svg_text.proofs.Drawings.{draws_then}
use Rattle.capture_chart.proofs.lanes.draw_lanes.Goals as goal

pub loop-lane-init : goal.loop-lane-init
loop-lane-init c = subst (Draws c.args.drawing c.in_ok-drawing.drawing) (sym (append-nil _)) c.in_ok-drawing.ensures

pub loop-lane-preserved : goal.loop-lane-preserved
loop-lane-preserved c =
    let lanes = c.args.lanes.now in
    let i = c.loop-lane.lane in
    let router = lane_octets c.args.bottom ROUTER (codes "router") in
    let named : Draws c.loop-lane.drawing c.in_ok-drawing-2.drawing (lane_octets c.args.bottom c.lane_place.result (connection_words (get_or lanes i 0))) =
    subst (λ (w : List ℕ). Draws c.loop-lane.drawing c.in_ok-drawing-2.drawing (lane_octets c.args.bottom c.lane_place.result w))
    (c.as_str.ensures.value ∙ c.in_ok-words.ensures) c.in_ok-drawing-2.ensures in
    let placed : Draws c.loop-lane.drawing c.in_ok-drawing-2.drawing (lane_octets c.args.bottom (count_place FIRST_LANE LANE i) (connection_words (get_or lanes i 0))) =
    subst (λ (n : ℕ). Draws c.loop-lane.drawing c.in_ok-drawing-2.drawing (lane_octets c.args.bottom n (connection_words (get_or lanes i 0)))) c.lane_place.ensures named in
    subst (Draws c.args.drawing c.in_ok-drawing-2.drawing)
    (append_assoc router (lanes_octets c.args.bottom 0 (take i lanes)) _ ∙ ap (λ (t : List ℕ). router ++ t) (sym (lanes_drawn_more c.args.bottom lanes i c.loop-lane-test.true)))
    (draws_then c.args.drawing c.loop-lane.drawing c.in_ok-drawing-2.drawing _ _ c.loop-lane.invariant placed)

pub returns : goal.returns
returns c =
    subst (λ (xs : List ℕ). Draws c.args.drawing c.loop-lane.drawing (lane_octets c.args.bottom ROUTER (codes "router") ++ lanes_octets c.args.bottom 0 xs))
    (take_all c.loop-lane.lane c.args.lanes.now c.loop-lane-test.false) c.loop-lane.invariant
