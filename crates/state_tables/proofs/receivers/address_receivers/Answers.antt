use Rattle.std.proofs.Common.{◌≡◌, ap, ◌∙◌, ◌<◌, ◌++◌, [], ◌∷◌, List, Some, length, arith, rules}
use Rattle.trace_events.specs.History.{history}
use Rattle.state_tables.specs.Consumers.{numbers_at}
use Rattle.state_tables.specs.declared.copies.Receiver.{Receiver}
use Rattle.state_tables.proofs.ReceiversOf.{one-more, none-more}
use Rattle.state_tables.proofs.receivers.address_receivers.Goals as goal
use Rattle.state_tables.proofs.receivers.address_receivers.Goals.{in-Some+in_ok-push, in_default}

pub loop-index-preserved : goal.loop-index-preserved
loop-index-preserved c = λ texts records are linked.
    let past = history texts records in
    let numbers = numbers_at c.args.consumers.now c.args.address.now in
    let lt = c.loop-index-test.true in
    let len = c.count-count.ensures.stored in
    let below : c.loop-index.index < length numbers = omega (arith, lt, len) in
    let step = one-more past numbers c.loop-index.index below c.get-number.result c.get-number.ensures in
    let earlier = c.loop-index.invariant texts records are linked in
    elim c.match-numbered_receiver.branch [
      | in-Some+in_ok-push w ↦
          let pushed : c.match-numbered_receiver.receivers.items ≡ c.loop-index.receivers.items ++ (w.in-Some.receiver ∷ []) = search rules in
          let Followed : List Receiver → List Receiver = λ rs. rs ++ (w.in-Some.receiver ∷ []) in
          pushed ∙ (ap Followed earlier ∙ step (Some w.in-Some.receiver) (w.in-Some.ensures texts records are linked))
      | in_default w ↦
          let same : c.match-numbered_receiver.receivers.items ≡ c.loop-index.receivers.items = search rules in
          same ∙ (earlier ∙ none-more past numbers c.loop-index.index below c.get-number.result c.get-number.ensures (w.in_default.ensures texts records are linked))
    ]
