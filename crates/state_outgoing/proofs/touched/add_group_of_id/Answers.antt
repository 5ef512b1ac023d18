use Rattle.std.proofs.Common.{subst, ◌<◌, ◌≤◌}
use Rattle.number_groups.specs.Numbers.{is_among}
use Rattle.number_groups.specs.Groups.{numbers}
use Rattle.number_groups.specs.Ids.{same_id}
use Rattle.state_tables.proofs.GroupLists.{none-yet, one-more, all-in}
use Rattle.state_outgoing.proofs.touched.add_group_of_id.Goals as goal

pub loop-index-init : goal.loop-index-init
loop-index-init c = λ n. none-yet (numbers same_id c.args.groups.now c.args.key) n (is_among c.args.touched.now n)

pub loop-index-preserved : goal.loop-index-preserved
loop-index-preserved c = λ n.
    one-more (numbers same_id c.args.groups.now c.args.key) c.loop-index.index n (is_among c.args.touched.now n) _ _
    (subst (λ k. c.loop-index.index < k) c.count-index-end.ensures.count c.loop-index-test.true) (c.loop-index.invariant n) _ c.get.ensures (c.in_ok-add_number.ensures.added n)

pub returns : goal.returns
returns c = λ n.
    all-in (numbers same_id c.args.groups.now c.args.key) c.loop-index.index n (is_among c.args.touched.now n) _
    (subst (λ k. k ≤ c.loop-index.index) c.count-index-end.ensures.count c.loop-index-test.false) (c.loop-index.invariant n)
