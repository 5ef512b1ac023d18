use Rattle.std.proofs.Common.{◌≡◌, ◌∙◌, rules, sym, Some}
use Rattle.std.specs.List.{slice_get}
use Rattle.due_lists.specs.Queues.{waits_in}
use Rattle.due_lists.proofs.QueueMoves.{front-gone, shorter-more}
use Rattle.due_lists.proofs.queues.first_waiting.Goals as goal

pub loop-number-preserved : goal.loop-number-preserved
loop-number-preserved c =
    let number = c.in-Some.field-0.now in
    let here : slice_get c.loop-number.queue.items 0 ≡ Some number = search rules in
    shorter-more (waits_in c.args.deliveries.now) _ c.loop-number.queue.items c.pop_front.new.self.items number c.loop-number.invariant
    (front-gone c.loop-number.queue.items c.pop_front.new.self.items number here c.pop_front.ensures.rest) (sym c.waits.ensures ∙ c.if-waits.false)
