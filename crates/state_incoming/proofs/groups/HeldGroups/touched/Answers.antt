use Rattle.std.proofs.Common.{refl, ap, sym, ◌∙◌, is_some, map, nat_eq}
use Rattle.std.proofs.lemmas.Result.{err_from_is_err_and}
use Rattle.std.specs.List.{list_any}
use Rattle.trace_events.specs.Words.{is_number}
use Rattle.state_incoming.specs.Touched as law
use Rattle.trace_events.specs.View.{event_view, link_view}
use Rattle.state_tables.proofs.GroupLists.{any-map, five-in}
use Rattle.state_incoming.proofs.SomeTouched.{by-part, by-told, by-carried, by-settled, by-left}
use Rattle.state_incoming.proofs.groups.HeldGroups.touched.Goals as goal

pub returns-clause-found : goal.returns-clause-found
returns-clause-found g c = λ n.
    five-in _ _ _ _ _ _ _ _ _ _ _ _ _ _ _ (ap (list_any (nat_eq n)) c.new-touched.ensures) (c.in_ok-add_number.ensures.added n) (c.in_ok-add_number-2.ensures.added n) (c.in_ok-add_number-3.ensures.added n) (c.in_ok-add_settled.ensures.added n) (c.in_ok-add_all_left.ensures.added n)
    (ap (λ o. is_number o n) c.part_number.ensures) (ap (λ o. is_number o n) c.carried_number.ensures) refl
    (any-map link_view (law.is_left c.args.self.now (g.A.Addresses.has_one c.args.addresses.now) n) c.args.ended.now)

pub returns-in_err-add_number-clause-refused : goal.returns-in_err-add_number-clause-refused
returns-in_err-add_number-clause-refused g c =
    let has = g.A.Addresses.has_one c.args.addresses.now in
    let p = err_from_is_err_and c.from_residual.result c.from_residual.ensures.1 in
    rw p.1 (by-part c.args.self.now has (map link_view c.args.ended.now) (event_view c.args.event.now) (ap is_some (sym c.part_number.ensures) ∙ c.in_err-add_number.ensures.refused))

pub returns-in_err-add_number-2-clause-refused : goal.returns-in_err-add_number-2-clause-refused
returns-in_err-add_number-2-clause-refused g c =
    let has = g.A.Addresses.has_one c.args.addresses.now in
    let p = err_from_is_err_and c.from_residual-in_err-add_number-2.result c.from_residual-in_err-add_number-2.ensures.1 in
    rw p.1 (by-told c.args.self.now has (map link_view c.args.ended.now) (event_view c.args.event.now) c.in_err-add_number-2.ensures.refused)

pub returns-in_err-add_number-3-clause-refused : goal.returns-in_err-add_number-3-clause-refused
returns-in_err-add_number-3-clause-refused g c =
    let has = g.A.Addresses.has_one c.args.addresses.now in
    let p = err_from_is_err_and c.from_residual-in_err-add_number-3.result c.from_residual-in_err-add_number-3.ensures.1 in
    rw p.1 (by-carried c.args.self.now has (map link_view c.args.ended.now) (event_view c.args.event.now) (ap is_some (sym c.carried_number.ensures) ∙ c.in_err-add_number-3.ensures.refused))

pub returns-in_err-add_settled-clause-refused : goal.returns-in_err-add_settled-clause-refused
returns-in_err-add_settled-clause-refused g c =
    let has = g.A.Addresses.has_one c.args.addresses.now in
    let p = err_from_is_err_and c.from_residual-in_err-add_settled.result c.from_residual-in_err-add_settled.ensures.1 in
    rw p.1 (by-settled c.args.self.now has (map link_view c.args.ended.now) (event_view c.args.event.now) c.in_err-add_settled.ensures.refused)

pub returns-in_err-add_all_left-clause-refused : goal.returns-in_err-add_all_left-clause-refused
returns-in_err-add_all_left-clause-refused g c =
    let has = g.A.Addresses.has_one c.args.addresses.now in
    let p = err_from_is_err_and c.from_residual-in_err-add_all_left.result c.from_residual-in_err-add_all_left.ensures.1 in
    let m = c.in_err-add_all_left.ensures.refused in
    rw p.1 (by-left c.args.self.now has (map link_view c.args.ended.now) (event_view c.args.event.now) (m.0, sym (any-map link_view (law.is_left c.args.self.now has m.0) c.args.ended.now) ∙ m.1))
