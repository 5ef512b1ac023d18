use Rattle.std.proofs.Common.{ℕ, Some, sym, ap, ◌∙◌}
use Rattle.std.proofs.lemmas.Bool.{eq-eqb, ne_eqb}
use Rattle.capture_chart.specs.Places.{connection_place}
use Rattle.capture_chart.proofs.LaneLemmas.{chosen_false, chosen_true, found_here, none_left}
use Rattle.capture_chart.proofs.places.found_place.Goals as goal

pub loop-row-preserved : goal.loop-row-preserved
loop-row-preserved c =
    c.loop-row.invariant
    ∙ found_here c.args.lanes.now c.args.number c.args.arrows.now c.loop-row.row c.index-arrows-row.result c.loop-row-test.true c.index-arrows-row.is
    ∙ chosen_false _ _ _ (ne_eqb _ _ c.if-arrow-number.false)

pub returns-then-arrow-number : goal.returns-then-arrow-number
returns-then-arrow-number c =
    ap (λ (x : ℕ). Some (x, c.row_place.result)) c.connection_place.ensures
    ∙ ap (λ (y : ℕ). Some (connection_place c.args.lanes.now c.index-arrows-row.result.connection, y)) c.row_place.ensures
    ∙ sym (c.loop-row.invariant
    ∙ found_here c.args.lanes.now c.args.number c.args.arrows.now c.loop-row.row c.index-arrows-row.result c.loop-row-test.true c.index-arrows-row.is
    ∙ chosen_true _ _ _ (eq-eqb _ _ c.if-arrow-number.true))

pub returns : goal.returns
returns c = sym (c.loop-row.invariant ∙ none_left c.args.lanes.now c.args.number c.args.arrows.now c.loop-row.row c.loop-row-test.false)
