use Rattle.std.proofs.Common.{◌≡◌, ◌∙◌, ◌∷◌, ap, sym, None, Some, not, option_map}
use Rattle.trace_events.specs.Words.{where_passes}
use Rattle.trace_events.specs.Incoming.{completed_by}
use Rattle.trace_events.specs.Address.{has_multicast}
use Rattle.trace_events.specs.History.{history}
use Rattle.trace_events.proofs.Judged.{AreJudged, history-judged}
use Rattle.trace_events.specs.View.{event_view, incoming_view}
use Rattle.due_lists.specs.Queues.{queue_in}
use Rattle.due_lists.proofs.QueueLists.{queue-step}
use Rattle.due_lists.proofs.QueueMoves.{pushed-is, unpushed-is}
use Rattle.due_lists.proofs.queues.Queues.follow.Goals as goal

pub returns-in_default : goal.returns-in_default
returns-in_default c = λ records r next own queues at.
    let rules = c.args.rules.now in
    let e = event_view c.args.event.now in
    let past = history rules records in
    let are : AreJudged rules (e ∷ past) = ((r, next.0), history-judged rules records) in
    let none : None ≡ where_passes (λ d. not (has_multicast rules c.args.address.now)) (completed_by e) = sym (ap (option_map incoming_view) c.in_default.is) ∙ c.completed.ensures in
    let numbers = queue_in c.args.self.now at in
    queue-step rules e past are at numbers numbers (queues at) (unpushed-is rules at numbers (e ∷ past) c.args.address.now (completed_by e) own none)

pub returns : goal.returns
returns c = λ records r next own queues at.
    let rules = c.args.rules.now in
    let e = event_view c.args.event.now in
    let past = history rules records in
    let are : AreJudged rules (e ∷ past) = ((r, next.0), history-judged rules records) in
    let d = incoming_view c.in-Some.delivery in
    let some : Some d ≡ where_passes (λ d. not (has_multicast rules c.args.address.now)) (completed_by e) = sym (ap (option_map incoming_view) c.in-Some.is) ∙ c.completed.ensures in
    let numbers = queue_in c.args.self.now at in
    queue-step rules e past are at numbers (queue_in c.push.new.self at) (queues at) (c.in_ok-push.ensures at ∙ pushed-is rules at numbers (e ∷ past) c.args.address.now (completed_by e) d own some)
