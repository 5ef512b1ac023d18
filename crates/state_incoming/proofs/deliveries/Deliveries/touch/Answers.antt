use Rattle.std.proofs.Common.{◌≡◌, ap, sym, ◌∙◌, ℕ, true, List, None, Some, IfSome, refl, subst, if◌then◌else◌, ◌==◌, rules}
use Rattle.trace_events.specs.Event.{Incoming}
use Rattle.trace_events.specs.View.{incoming_view}
use Rattle.state_incoming.specs.declared.groups.GroupMarks.{GroupMarks}
use Rattle.state_incoming.specs.Grouped.{IsMarked, IsPut, marks_of, unmarked}
use Rattle.state_incoming.specs.Held.{Held, says_waiting}
use Rattle.state_incoming.specs.HeldViews.{held_view}
use Rattle.state_incoming.specs.HeldTables.{held_in}
use Rattle.state_incoming.proofs.Regrouped.{grouped-marked, put-grouped}
use Rattle.state_incoming.proofs.deliveries.Deliveries.touch.Goals as goal

pub returns-then-not-stays-clause-grouped : goal.returns-then-not-stays-clause-grouped
returns-then-not-stays-clause-grouped c = λ grouped.
    let x = held_view c.in-Some.held.now in
    let at : held_in c.args.self.now c.args.number ≡ Some x = search rules in
    let number : x.delivery.number ≡ c.args.number = subst (λ (o : _). IfSome o (λ (y : Held). y.delivery.number ≡ c.args.number)) at (grouped.numbered c.args.number) in
    let moved : (n : ℕ) → held_in (record { alloc = c.args.self.now.alloc; entries = c.swap_remove.new.self; groups = c.put.new.self; let_go = c.args.self.now.let_go }) n ≡ (if c.args.number == n then None else held_in c.args.self.now n) = search rules in
    let same : (held_view c.take.new.self).delivery ≡ x.delivery = c.in_ok-stays.ensures.same in
    let kept : held_in c.args.self.now x.delivery.number ≡ Some x = ap (held_in c.args.self.now) number ∙ at in
    let own = (held_view c.take.new.self).address in
    let stands : says_waiting x.fate ≡ true → x.address ≡ own = λ waits. sym (c.take.ensures.stands waits) in
    let stood : IsMarked (incoming_view c.delivery.result) c.address.result.now c.of-before.result c.args.self.now.groups =
    subst (λ (d : Incoming). IsMarked d c.address.result.now c.of-before.result c.args.self.now.groups) (sym (c.delivery.ensures ∙ same))
    (subst (λ (a : List ℕ). IsMarked x.delivery a c.of-before.result c.args.self.now.groups) (sym c.address.ensures.stored)
    (subst (λ (m : GroupMarks). IsMarked x.delivery own m c.args.self.now.groups) (sym c.of-before.ensures) (grouped-marked x.delivery c.args.self.now.groups (held_in c.args.self.now) (Some x) refl own stands kept grouped))) in
    let off : c.of-marks.result ≡ unmarked = search rules in
    let put : IsPut x.delivery own unmarked c.args.self.now.groups c.put.new.self =
    subst (λ (d : Incoming). IsPut d own unmarked c.args.self.now.groups c.put.new.self) (c.delivery.ensures ∙ same)
    (subst (λ (a : List ℕ). IsPut (incoming_view c.delivery.result) a unmarked c.args.self.now.groups c.put.new.self) c.address.ensures.stored
    (subst (λ (m : GroupMarks). IsPut (incoming_view c.delivery.result) c.address.result.now m c.args.self.now.groups c.put.new.self) off (c.in_ok-put.ensures stood))) in
    put-grouped x.delivery c.args.self.now.groups c.put.new.self (held_in c.args.self.now) _ (Some x) None refl tt own stands tt kept
    (λ n. moved n ∙ ap (λ (m : ℕ). if m == n then None else held_in c.args.self.now n) (sym number)) grouped put

pub returns-else-not-stays-clause-grouped : goal.returns-else-not-stays-clause-grouped
returns-else-not-stays-clause-grouped c = λ grouped.
    let x = held_view c.in-Some.held.now in
    let later = held_view c.take.new.self in
    let at : held_in c.args.self.now c.args.number ≡ Some x = search rules in
    let number : x.delivery.number ≡ c.args.number = subst (λ (o : _). IfSome o (λ (y : Held). y.delivery.number ≡ c.args.number)) at (grouped.numbered c.args.number) in
    let moved : (n : ℕ) → held_in (record { alloc = c.args.self.now.alloc; entries = c.get_mut.follows.lender c.take.new.self; groups = c.put.new.self; let_go = c.args.self.now.let_go }) n ≡ (if c.args.number == n then Some later else held_in c.args.self.now n) = search rules in
    let same : later.delivery ≡ x.delivery = c.in_ok-stays.ensures.same in
    let kept : held_in c.args.self.now x.delivery.number ≡ Some x = ap (held_in c.args.self.now) number ∙ at in
    let own = later.address in
    let stands : says_waiting x.fate ≡ true → x.address ≡ own = λ waits. sym (c.take.ensures.stands waits) in
    let stood : IsMarked (incoming_view c.delivery.result) c.address.result.now c.of-before.result c.args.self.now.groups =
    subst (λ (d : Incoming). IsMarked d c.address.result.now c.of-before.result c.args.self.now.groups) (sym (c.delivery.ensures ∙ same))
    (subst (λ (a : List ℕ). IsMarked x.delivery a c.of-before.result c.args.self.now.groups) (sym c.address.ensures.stored)
    (subst (λ (m : GroupMarks). IsMarked x.delivery own m c.args.self.now.groups) (sym c.of-before.ensures) (grouped-marked x.delivery c.args.self.now.groups (held_in c.args.self.now) (Some x) refl own stands kept grouped))) in
    let on : c.of-marks.result ≡ marks_of later = search rules in
    let put : IsPut x.delivery own (marks_of later) c.args.self.now.groups c.put.new.self =
    subst (λ (d : Incoming). IsPut d own (marks_of later) c.args.self.now.groups c.put.new.self) (c.delivery.ensures ∙ same)
    (subst (λ (a : List ℕ). IsPut (incoming_view c.delivery.result) a (marks_of later) c.args.self.now.groups c.put.new.self) c.address.ensures.stored
    (subst (λ (m : GroupMarks). IsPut (incoming_view c.delivery.result) c.address.result.now m c.args.self.now.groups c.put.new.self) on (c.in_ok-put.ensures stood))) in
    put-grouped x.delivery c.args.self.now.groups c.put.new.self (held_in c.args.self.now) _ (Some x) (Some later) refl same own stands (λ waits. refl) kept
    (λ n. moved n ∙ ap (λ (m : ℕ). if m == n then Some later else held_in c.args.self.now n) (sym number)) grouped put
