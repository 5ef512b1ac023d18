use Rattle.std.proofs.lemmas.List.Folds.{list_any_at}
use Rattle.std.proofs.lemmas.Result.{err_from_is_err_and}
use Rattle.number_groups.specs.Numbers.{is_among}
use Rattle.state_incoming.specs.Touched as law
use Rattle.trace_events.specs.View.{link_view}
use Rattle.state_tables.proofs.GroupLists.{nothing-yet, each-more, each-in}
use Rattle.state_incoming.proofs.groups.HeldGroups.add_all_left.Goals as goal

pub loop-link-init : goal.loop-link-init
loop-link-init g c = λ n. nothing-yet (λ link. law.is_left c.args.self.now (g.A.Addresses.has_one c.args.addresses.now) n (link_view link)) c.args.ended.now (is_among c.args.touched.now n)

pub loop-link-preserved : goal.loop-link-preserved
loop-link-preserved g c = λ n.
    each-more (λ link. law.is_left c.args.self.now (g.A.Addresses.has_one c.args.addresses.now) n (link_view link)) c.args.ended.now c.loop-link.link-index _
    (is_among c.args.touched.now n) _ _ c.loop-link-test.true (c.loop-link.invariant n) (c.in_ok-add_left.ensures.added n)

pub returns-clause-added : goal.returns-clause-added
returns-clause-added g c = λ n.
    each-in (λ link. law.is_left c.args.self.now (g.A.Addresses.has_one c.args.addresses.now) n (link_view link)) c.args.ended.now c.loop-link.link-index
    (is_among c.args.touched.now n) _ c.loop-link-test.false (c.loop-link.invariant n)

pub returns-in_err-add_left-clause-refused : goal.returns-in_err-add_left-clause-refused
returns-in_err-add_left-clause-refused g c =
    let p = err_from_is_err_and c.from_residual.result c.from_residual.ensures.1 in
    let m = c.in_err-add_left.ensures.refused in
    rw p.1 (m.0, list_any_at (λ link. law.is_left c.args.self.now (g.A.Addresses.has_one c.args.addresses.now) m.0 (link_view link)) c.args.ended.now c.loop-link.link-index _ c.loop-link-test.true m.1)
