use Rattle.std.proofs.Common.{subst, ◌<◌, ◌≤◌}
use Rattle.std.proofs.lemmas.Result.{err_from_is_err_and}
use Rattle.number_groups.specs.OctetGroups.{numbers}
use Rattle.number_groups.specs.Ascending.{has}
use Rattle.state_tables.proofs.GroupLists.{none-yet, one-more, all-in, some-in}
use Rattle.state_answers.proofs.adding.add_octet_group.Goals as goal

pub loop-index-init : goal.loop-index-init
loop-index-init c = λ n. none-yet (numbers c.args.groups.now c.args.key.now) n (has c.args.candidates.now n)

pub loop-index-preserved : goal.loop-index-preserved
loop-index-preserved c = λ n.
    one-more (numbers c.args.groups.now c.args.key.now) c.loop-index.index n (has c.args.candidates.now n) _ _
    (subst (λ k. c.loop-index.index < k) c.count-index-end.ensures.count c.loop-index-test.true) (c.loop-index.invariant n) _ c.get.ensures (c.in_ok-add.ensures.joined n)

pub returns-clause-joined : goal.returns-clause-joined
returns-clause-joined c = λ n.
    all-in (numbers c.args.groups.now c.args.key.now) c.loop-index.index n (has c.args.candidates.now n) _
    (subst (λ k. k ≤ c.loop-index.index) c.count-index-end.ensures.count c.loop-index-test.false) (c.loop-index.invariant n)

pub returns-in_err-add-clause-refused : goal.returns-in_err-add-clause-refused
returns-in_err-add-clause-refused c =
    let p = err_from_is_err_and c.from_residual.result c.from_residual.ensures.1 in
    rw p.1 (some-in (numbers c.args.groups.now c.args.key.now) c.loop-index.index (subst (λ k. c.loop-index.index < k) c.count-index-end.ensures.count c.loop-index-test.true))
