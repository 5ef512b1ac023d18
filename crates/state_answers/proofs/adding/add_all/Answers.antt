use Rattle.std.proofs.Common.{◌∙◌, ap, sym, ◌||◌, nat_eq}
use Rattle.std.proofs.lemmas.Result.{err_from_is_err_and}
use Rattle.number_groups.specs.Ascending.{has}
use Rattle.state_tables.proofs.GroupLists.{each-in, each-more, nothing-yet, some-in, swapped}
use Rattle.state_answers.proofs.adding.add_all.Goals as goal

pub loop-number-init : goal.loop-number-init
loop-number-init c = λ n. nothing-yet (nat_eq n) c.args.numbers.now (has c.args.candidates.now n)

pub loop-number-preserved : goal.loop-number-preserved
loop-number-preserved c = λ n.
    each-more (nat_eq n) c.args.numbers.now c.loop-number.number-index _
    (has c.args.candidates.now n) _ _ c.loop-number-test.true (c.loop-number.invariant n) (c.in_ok-insert.ensures.joined n ∙ ap (λ b. has c.loop-number.candidates n || b) (sym (swapped n _)))

pub returns-clause-joined : goal.returns-clause-joined
returns-clause-joined c = λ n. each-in (nat_eq n) c.args.numbers.now c.loop-number.number-index (has c.args.candidates.now n) _ c.loop-number-test.false (c.loop-number.invariant n)

pub returns-in_err-insert-clause-refused : goal.returns-in_err-insert-clause-refused
returns-in_err-insert-clause-refused c =
    let p = err_from_is_err_and c.from_residual.result c.from_residual.ensures.1 in
    rw p.1 (some-in c.args.numbers.now c.loop-number.number-index c.loop-number-test.true)
