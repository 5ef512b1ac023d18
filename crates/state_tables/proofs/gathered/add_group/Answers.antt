use Rattle.std.proofs.Common.{nat_eq, subst, ◌<◌, ◌≤◌}
use Rattle.std.proofs.lemmas.Result.{err_from_is_err_and}
use Rattle.number_groups.specs.Numbers.{is_among}
use Rattle.number_groups.specs.Groups.{numbers}
use Rattle.state_tables.proofs.GroupLists.{none-yet, one-more, all-in, some-in}
use Rattle.state_tables.proofs.gathered.add_group.Goals as goal

pub loop-index-init : goal.loop-index-init
loop-index-init c = λ n. none-yet (numbers nat_eq c.args.groups.now c.args.key) n (is_among c.args.gathered.now n)

pub loop-index-preserved : goal.loop-index-preserved
loop-index-preserved c = λ n.
    one-more (numbers nat_eq c.args.groups.now c.args.key) c.loop-index.index n (is_among c.args.gathered.now n) _ _
    (subst (λ k. c.loop-index.index < k) c.count-index-end.ensures.count c.loop-index-test.true) (c.loop-index.invariant n) _ c.get.ensures (c.in_ok-add_number.ensures.added n)

pub returns-clause-added : goal.returns-clause-added
returns-clause-added c = λ n.
    all-in (numbers nat_eq c.args.groups.now c.args.key) c.loop-index.index n (is_among c.args.gathered.now n) _
    (subst (λ k. k ≤ c.loop-index.index) c.count-index-end.ensures.count c.loop-index-test.false) (c.loop-index.invariant n)

pub returns-in_err-add_number-clause-refused : goal.returns-in_err-add_number-clause-refused
returns-in_err-add_number-clause-refused c =
    let p = err_from_is_err_and c.from_residual.result c.from_residual.ensures.1 in
    rw p.1 (some-in (numbers nat_eq c.args.groups.now c.args.key) c.loop-index.index (subst (λ k. c.loop-index.index < k) c.count-index-end.ensures.count c.loop-index-test.true))
