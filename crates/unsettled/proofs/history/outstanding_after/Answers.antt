use Rattle.std.proofs.Common.{sym, ap, ◌∙◌, take, reverse}
use Rattle.flow_counts.specs.Covers.{outstanding}
use Rattle.flow_counts.proofs.Newest.{reverse-next}
use Rattle.unsettled.proofs.history.outstanding_after.Goals as goal

pub loop-event-init : goal.loop-event-init
loop-event-init c = c.new-outstanding.ensures

pub loop-event-preserved : goal.loop-event-preserved
loop-event-preserved c =
    c.in_ok-count.ensures (reverse (take c.loop-event.event-index c.args.events.now)) c.loop-event.invariant
    ∙ ap outstanding (sym (reverse-next _ _ _ c.loop-event-test.true))
