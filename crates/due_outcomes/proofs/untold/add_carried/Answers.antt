use Rattle.std.proofs.Common.{ap, ◌||◌, ◌∙◌, ℕ, Bool}
use Rattle.number_groups.specs.Ascending.{has}
use Rattle.trace_events.specs.Words.{is_number}
use Rattle.state_tables.proofs.GroupLists.{nothing-yet, each-more, each-in}
use Rattle.state_outgoing.specs.SentAnswers.{carried}
use Rattle.state_outgoing.specs.SentTables.{sent_in}
use Rattle.due_outcomes.proofs.untold.add_carried.Goals as goal

pub loop-number-init : goal.loop-number-init
loop-number-init c = λ n. nothing-yet (λ m. is_number (carried (sent_in c.args.sent.now m)) n) c.args.numbers.now (has c.args.candidates.now n)

pub loop-number-preserved : goal.loop-number-preserved
loop-number-preserved c = λ n.
    let test : ℕ → Bool = λ m. is_number (carried (sent_in c.args.sent.now m)) n in
    each-more test c.args.numbers.now c.loop-number.number-index _
    (has c.args.candidates.now n) _ _ c.loop-number-test.true (c.loop-number.invariant n)
    (c.in_ok-add.ensures.joined n ∙ ap (λ o. has c.loop-number.candidates n || is_number o n) c.carried_by.ensures)

pub returns : goal.returns
returns c = λ n.
    each-in (λ m. is_number (carried (sent_in c.args.sent.now m)) n) c.args.numbers.now c.loop-number.number-index
    (has c.args.candidates.now n) _ c.loop-number-test.false (c.loop-number.invariant n)
