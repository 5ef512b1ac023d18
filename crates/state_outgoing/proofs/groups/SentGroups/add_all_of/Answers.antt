use Rattle.std.proofs.Common.{nat_eq}
use Rattle.number_groups.specs.Numbers.{is_among}
use Rattle.number_groups.specs.Groups.{is_member}
use Rattle.trace_events.specs.View.{link_view}
use Rattle.state_tables.proofs.GroupLists.{nothing-yet, each-more, each-in}
use Rattle.state_outgoing.proofs.groups.SentGroups.add_all_of.Goals as goal

pub loop-link-init : goal.loop-link-init
loop-link-init c = λ n. nothing-yet (λ link. is_member nat_eq c.args.self.now.of_link (link_view link).number n) c.args.ended.now (is_among c.args.touched.now n)

pub loop-link-preserved : goal.loop-link-preserved
loop-link-preserved c = λ n.
    each-more (λ link. is_member nat_eq c.args.self.now.of_link (link_view link).number n) c.args.ended.now c.loop-link.link-index _
    (is_among c.args.touched.now n) _ _ c.loop-link-test.true (c.loop-link.invariant n) (c.in_ok-add_group.ensures.added n)

pub returns : goal.returns
returns c = λ n.
    each-in (λ link. is_member nat_eq c.args.self.now.of_link (link_view link).number n) c.args.ended.now c.loop-link.link-index
    (is_among c.args.touched.now n) _ c.loop-link-test.false (c.loop-link.invariant n)
