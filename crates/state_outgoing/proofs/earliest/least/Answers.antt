use Rattle.std.proofs.Common.{ap, subst, ◌∙◌, ◌<◌}
use Rattle.number_groups.specs.Groups.{numbers}
use Rattle.state_outgoing.specs.Earliest.{lesser}
use Rattle.state_outgoing.proofs.LeastNumbers.{least-next}
use Rattle.state_outgoing.proofs.earliest.least.Goals as goal

pub loop-index-preserved : goal.loop-index-preserved
loop-index-preserved g c =
    least-next (g.T.NumberTest.does_pass c.args.test.now) (numbers g.K.PartialEq.eq c.args.groups.now c.args.key.now) c.loop-index.index _ _
    (subst (λ k. c.loop-index.index < k) c.count-index-end.ensures.count c.loop-index-test.true) c.loop-index.invariant _ c.get.ensures
    (c.lesser-found.ensures ∙ ap (lesser c.loop-index.found) c.passing.ensures)
