use Rattle.std.proofs.Common.{◌≡◌, ◌<◌, inl, inr, ap, sym, ◌∙◌, ℕ, map, length, Some, true, false, if◌then◌else◌, ◌==◌, ◌∷◌}
use Rattle.std.proofs.lemmas.Result.{err_from_is_err_and}
use Rattle.number_groups.specs.Numbers.{is_among}
use Rattle.trace_events.specs.Words.{or_else}
use Rattle.trace_events.specs.History.{history}
use Rattle.trace_events.proofs.Judged.{AreJudged, history-judged}
use Rattle.trace_events.specs.View.{event_view, link_view}
use Rattle.state_tables.specs.LetGo.{is_let_go}
use Rattle.state_incoming.specs.Held.{Held, address_behind, held_begun, is_begun_served}
use Rattle.state_incoming.specs.HeldTouched.{is_touched}
use Rattle.state_incoming.specs.HeldTables.{held_in, kept_at}
use Rattle.state_incoming.proofs.EndedKnown.{are-ended, ended-of}
use Rattle.state_incoming.proofs.OverKnown.{over-before}
use Rattle.state_incoming.proofs.OverLasts.{over-lasts}
use Rattle.state_incoming.proofs.TouchedKnown.{found}
use Rattle.state_incoming.proofs.TouchedAll.{mid-none, taken}
use Rattle.state_incoming.proofs.deliveries.Deliveries.take.Goals as goal

pub returns-clause-kept : goal.returns-clause-kept
returns-clause-kept g c = λ records r next table addressed same ends.
    let rules = c.args.rules.now in
    let e = event_view c.args.event.now in
    let past = history rules records in
    let are : AreJudged rules (e ∷ past) = ((r, next.0), history-judged rules records) in
    let to = c.args.address.now in
    let has = g.A.Addresses.has_one c.args.addresses.now in
    let ended = map link_view c.args.ended.now in
    let old = held_in c.args.self.now in
    let mid = held_in c.touch_all.new.self in
    let all = is_among c.in_ok-touched.touched in
    let items = c.args.self.now.let_go.items in
    let gone = is_let_go items in
    let before : (n : ℕ) → gone n ≡ true → n < length past = λ n went. (over-before rules past are.1 n (table.1.1 n went)).0 in
    let of = ended-of rules e past has ended old gone table.0 (are-ended rules e past are has same ended ends) in
    let off : (n : ℕ) (x : Held) → old n ≡ Some x → all n ≡ false → is_touched e (has (address_behind e to x)) x ≡ false = λ n x at none. found c.args.self.now.groups old table.1.0 n x at has ended e of to (sym (c.in_ok-touched.ensures.found n) ∙ none) in
    let put : (n : ℕ) → held_in c.begin.new.self n ≡ (if e.number == n then or_else (held_begun rules e to (is_begun_served e to has)) (mid n) else mid n) = λ n. c.in_ok-begin.ensures.begun n ∙ ap (λ b. if e.number == n then or_else (held_begun rules e to b) (mid n) else mid n) c.begins_served-has_consumer.ensures in
    let still : c.begin.new.self.let_go.items ≡ items = c.begin.ensures.gone ∙ c.touch_all.ensures.gone in (
      λ n. taken rules e past are next.1 to addressed has same old mid (held_in c.begin.new.self) all gone table.0 before off c.in_ok-touch_all.ensures.touched put n
          ∙ ap (λ xs. kept_at xs rules n (e ∷ past)) (sym still),
      (
        c.in_ok-begin.ensures.grouped (c.in_ok-touch_all.ensures.grouped table.1.0) (mid-none rules e past are next.1 to addressed has same old mid (held_in c.begin.new.self) all gone table.0 before off c.in_ok-touch_all.ensures.touched put),
        λ n went. over-lasts rules e past are next.1 n (table.1.1 n (ap (λ xs. is_let_go xs n) (sym still) ∙ went)),
      ),
    )

pub returns-in_err-touched-clause-refused : goal.returns-in_err-touched-clause-refused
returns-in_err-touched-clause-refused g c =
    let p = err_from_is_err_and c.from_residual.result c.from_residual.ensures.1 in
    rw p.1 (inr c.in_err-touched.ensures.refused)

pub returns-in_err-touch_all-clause-refused : goal.returns-in_err-touch_all-clause-refused
returns-in_err-touch_all-clause-refused g c =
    let p = err_from_is_err_and c.from_residual-in_err-touch_all.result c.from_residual-in_err-touch_all.ensures.1 in
    rw p.1 (let m = c.in_err-touch_all.ensures.refused in inr (m.0, sym (c.in_ok-touched.ensures.found m.0) ∙ m.1))

pub returns-in_err-begin-clause-refused : goal.returns-in_err-begin-clause-refused
returns-in_err-begin-clause-refused g c =
    let p = err_from_is_err_and c.from_residual-in_err-begin.result c.from_residual-in_err-begin.ensures.1 in
    rw p.1 (inl c.in_err-begin.ensures.refused)
