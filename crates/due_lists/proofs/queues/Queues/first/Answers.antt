use Rattle.std.proofs.Common.{◌≡◌, ◌∙◌, List, [], ℕ, ap, sym, subst, rules, None, Some, bytes_eq, option_map}
use Rattle.indexmap.specs.IndexMap.{get_by}
use Rattle.number_groups.proofs.Octets.{changed, under}
use Rattle.trace_events.specs.History.{history}
use Rattle.trace_events.proofs.Judged.{history-judged}
use Rattle.trace_events.specs.View.{incoming_view}
use Rattle.due_lists.specs.Queues.{queued, IsQueue}
use Rattle.due_lists.proofs.QueueLists.{none-waits}
use Rattle.due_lists.proofs.QueueMoves.{chosen, emptied-queues, here, moved-queues, shorter-at}
use Rattle.due_lists.proofs.queues.Queues.first.Goals as goal

pub returns-in_default-clause-none : goal.returns-in_default-clause-none
returns-in_default-clause-none c = λ rs records tables queues none.
    let address = c.args.address.now in
    let absent : get_by (λ kept. bytes_eq address kept.items) c.args.self.now.entries ≡ None = search rules in
    none-waits rs (history rs records) address _ (queues address) (ap queued absent)

pub returns-in_default-first_waiting-clause-kept :
    goal.returns-in_default-first_waiting-clause-kept
returns-in_default-first_waiting-clause-kept c = λ rs records tables queues.
    let key = c.args.address.now in
    let m = c.args.self.now.entries in
    let n = c.get_mut.follows.lender c.first_waiting.new.queue in
    let moved = changed m n key (Some c.first_waiting.new.queue) ((c.get_mut.follows.holds c.first_waiting.new.queue).3 (search rules)) in
    let none : queued (under n key) ≡ [] = ap queued (moved key ∙ here key c.first_waiting.new.queue (under m key)) ∙ c.first_waiting.ensures.none c.in_default-first_waiting.is in
    emptied-queues rs (history rs records) (history-judged rs records) c.args.tables.now.deliveries.now tables.1.1.1.1.0 n c.swap_remove.new.self key none
    (changed n c.swap_remove.new.self key None c.swap_remove.ensures.updates)
    (moved-queues rs (history rs records) (history-judged rs records) c.args.tables.now.deliveries.now tables.1.1.1.1.0 m n key c.in-Some.queue.now c.first_waiting.new.queue c.in-Some.ensures.value moved
    c.first_waiting.ensures.shorter queues)

pub returns-in_default-first_waiting-clause-none :
    goal.returns-in_default-first_waiting-clause-none
returns-in_default-first_waiting-clause-none c = λ rs records tables queues none.
    let key = c.args.address.now in
    let items : queued (under c.args.self.now.entries key) ≡ c.in-Some.queue.now.items = ap queued (sym c.in-Some.ensures.value) in
    none-waits rs (history rs records) key c.first_waiting.new.queue.items
    (shorter-at rs (history rs records) (history-judged rs records) c.args.tables.now.deliveries.now tables.1.1.1.1.0 key c.in-Some.queue.now.items c.first_waiting.new.queue.items
    (subst (λ (xs : List ℕ). IsQueue rs (history rs records) key xs) items (queues key)) c.first_waiting.ensures.shorter)
    (c.first_waiting.ensures.none c.in_default-first_waiting.is)

pub returns-clause-kept : goal.returns-clause-kept
returns-clause-kept c = λ rs records tables queues.
    let key = c.args.address.now in
    let m = c.args.self.now.entries in
    let n = c.get_mut.follows.lender c.first_waiting.new.queue in
    moved-queues rs (history rs records) (history-judged rs records) c.args.tables.now.deliveries.now tables.1.1.1.1.0 m n key c.in-Some.queue.now c.first_waiting.new.queue c.in-Some.ensures.value
    (changed m n key (Some c.first_waiting.new.queue) ((c.get_mut.follows.holds c.first_waiting.new.queue).3 (search rules))) c.first_waiting.ensures.shorter queues

pub returns-clause-first : goal.returns-clause-first
returns-clause-first c = λ rs records tables queues.
    let key = c.args.address.now in
    let past = history rs records in
    let items : queued (under c.args.self.now.entries key) ≡ c.in-Some.queue.now.items = ap queued (sym c.in-Some.ensures.value) in
    let first = c.in-Some-first_waiting.ensures.first in
    chosen rs past (history-judged rs records) c.args.tables.now.deliveries.now tables.1.1.1.1.0 key c.first_waiting.new.queue.items c.in-Some-first_waiting.number
    (shorter-at rs past (history-judged rs records) c.args.tables.now.deliveries.now tables.1.1.1.1.0 key c.in-Some.queue.now.items c.first_waiting.new.queue.items
    (subst (λ (xs : List ℕ). IsQueue rs past key xs) items (queues key)) c.first_waiting.ensures.shorter)
    first.0 first.1 (option_map incoming_view c.kept.result) c.kept.ensures
