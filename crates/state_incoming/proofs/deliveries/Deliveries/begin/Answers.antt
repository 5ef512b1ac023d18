use Rattle.std.proofs.Common.{◌≡◌, ap, sym, ◌∙◌, ℕ, List, None, Some, refl, subst, if◌then◌else◌, ◌==◌, rules}
use Rattle.trace_events.specs.Event.{Incoming}
use Rattle.trace_events.specs.View.{event_view, incoming_view}
use Rattle.state_incoming.specs.Grouped.{IsMarked, IsPut, marks_of}
use Rattle.state_incoming.specs.Held.{held_begun}
use Rattle.state_incoming.specs.HeldViews.{held_view}
use Rattle.state_incoming.specs.HeldTables.{held_in}
use Rattle.state_incoming.specs.declared.groups.GroupMarks.{GroupMarks}
use Rattle.state_incoming.proofs.Regrouped.{grouped-marked, put-grouped}
use Rattle.state_incoming.proofs.TouchedAll.{begun-number}
use Rattle.state_incoming.proofs.deliveries.Deliveries.begin.Goals as goal

pub returns-in_ok-insert-clause-grouped : goal.returns-in_ok-insert-clause-grouped
returns-in_ok-insert-clause-grouped c = λ grouped none.
    let e = event_view c.args.event.now in
    let x = held_view c.in-Some.held in
    let begun : held_begun c.args.rules.now e c.args.address.now c.args.has_consumer ≡ Some x = search rules in
    let number : x.delivery.number ≡ c.args.event.now.number = begun-number c.args.rules.now e c.args.address.now c.args.has_consumer x begun in
    let moved : (n : ℕ) → held_in (record { alloc = c.args.self.now.alloc; entries = c.insert.new.self; groups = c.put.new.self; let_go = c.args.self.now.let_go }) n ≡ (if c.args.event.now.number == n then Some x else held_in c.args.self.now n) = search rules in
    let unkept : held_in c.args.self.now x.delivery.number ≡ None = ap (held_in c.args.self.now) number ∙ none in
    let stood : IsMarked (incoming_view c.delivery.result) c.address.result.now c.none.result c.args.self.now.groups =
    subst (λ (d : Incoming). IsMarked d c.address.result.now c.none.result c.args.self.now.groups) (sym c.delivery.ensures)
    (subst (λ (a : List ℕ). IsMarked x.delivery a c.none.result c.args.self.now.groups) (sym c.address.ensures.stored)
    (subst (λ (m : GroupMarks). IsMarked x.delivery x.address m c.args.self.now.groups) (sym c.none.ensures) (grouped-marked x.delivery c.args.self.now.groups (held_in c.args.self.now) None tt x.address tt unkept grouped))) in
    let put : IsPut x.delivery x.address (marks_of x) c.args.self.now.groups c.put.new.self =
    subst (λ (d : Incoming). IsPut d x.address (marks_of x) c.args.self.now.groups c.put.new.self) c.delivery.ensures
    (subst (λ (a : List ℕ). IsPut (incoming_view c.delivery.result) a (marks_of x) c.args.self.now.groups c.put.new.self) c.address.ensures.stored
    (subst (λ (m : GroupMarks). IsPut (incoming_view c.delivery.result) c.address.result.now m c.args.self.now.groups c.put.new.self) c.of-marks.ensures (c.in_ok-put.ensures stood))) in
    put-grouped x.delivery c.args.self.now.groups c.put.new.self (held_in c.args.self.now) _ None (Some x) tt refl x.address tt (λ waits. refl) unkept
    (λ n. moved n ∙ ap (λ (m : ℕ). if m == n then Some x else held_in c.args.self.now n) (sym number)) grouped put
