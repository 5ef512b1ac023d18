use Rattle.std.proofs.Common.{nat_eq}
use Rattle.std.proofs.lemmas.Result.{err_from_is_err_and}
use Rattle.number_groups.specs.Ascending.{has}
use Rattle.number_groups.specs.Groups.{is_member}
use Rattle.trace_events.specs.View.{link_view}
use Rattle.state_tables.proofs.GroupLists.{nothing-yet, each-more, each-in, some-of}
use Rattle.state_answers.proofs.adding.add_of_links.Goals as goal

pub loop-link-init : goal.loop-link-init
loop-link-init c = λ n. nothing-yet (λ link. is_member nat_eq c.args.groups.now (link_view link).number n) c.args.links.now (has c.args.candidates.now n)

pub loop-link-preserved : goal.loop-link-preserved
loop-link-preserved c = λ n.
    each-more (λ link. is_member nat_eq c.args.groups.now (link_view link).number n) c.args.links.now c.loop-link.link-index _
    (has c.args.candidates.now n) _ _ c.loop-link-test.true (c.loop-link.invariant n) (c.in_ok-add_group.ensures.joined n)

pub returns-clause-joined : goal.returns-clause-joined
returns-clause-joined c = λ n.
    each-in (λ link. is_member nat_eq c.args.groups.now (link_view link).number n) c.args.links.now c.loop-link.link-index
    (has c.args.candidates.now n) _ c.loop-link-test.false (c.loop-link.invariant n)

pub returns-in_err-add_group-clause-refused : goal.returns-in_err-add_group-clause-refused
returns-in_err-add_group-clause-refused c =
    let p = err_from_is_err_and c.from_residual.result c.from_residual.ensures.1 in
    let some = c.in_err-add_group.ensures.refused in
    rw p.1 (some.0, some-of (λ link. is_member nat_eq c.args.groups.now (link_view link).number some.0) c.args.links.now c.loop-link.link-index _ c.loop-link-test.true some.1)
