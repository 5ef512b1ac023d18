use Rattle.std.proofs.Common.{sym, subst, take, ap, ◌∷◌, ◌∙◌}
use Rattle.unsettled.specs.Deliveries.{IsCount}
use Rattle.unsettled.specs.History.{parts_of, part_event}
use Rattle.unsettled.proofs.Order.{parts_of-none, parts_of-next}
use Rattle.unsettled.proofs.history.inbound_after.Goals as goal

pub loop-event-init : goal.loop-event-init
loop-event-init c = subst (IsCount c.new-inbound.result) (sym parts_of-none) c.new-inbound.ensures

pub loop-event-preserved : goal.loop-event-preserved
loop-event-preserved c =
    let earlier = parts_of (take c.loop-event.event-index c.args.events.now) in
    subst (IsCount c.count.new.self)
    (sym (parts_of-next _ _ _ c.loop-event-test.true ∙ ap (λ e. part_event e ∷ earlier) (sym c.event-item.is)))
    (c.in_ok-count.ensures earlier c.loop-event.invariant)
