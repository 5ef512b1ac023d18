use Rattle.std.proofs.Common.{◌≡◌, refl, ap, ◌∙◌, ℕ, arith, option_and_then, if◌then◌else◌, ◌==◌}
use Rattle.std.proofs.lemmas.Result.{err_from_is_err_and}
use Rattle.number_groups.specs.Numbers.{is_among}
use Rattle.trace_events.specs.View.{event_view}
use Rattle.state_incoming.specs.Held.{held_next}
use Rattle.state_incoming.specs.HeldTables.{held_in}
use Rattle.state_incoming.proofs.TouchedAll.{nothing-moved, all-moved, still-within, one-more, popped-in, none-left}
use Rattle.state_incoming.proofs.deliveries.Deliveries.touch_all.Goals as goal

pub loop-number-init : goal.loop-number-init
loop-number-init g c = ((λ n is. is), (λ n. nothing-moved c.args.rules.now (event_view c.args.event.now) c.args.address.now (g.A.Addresses.has_one c.args.addresses.now) (held_in c.args.self.now n) (is_among c.args.touched n)), (λ grouped. grouped), refl)

pub loop-number-smaller : goal.loop-number-smaller
loop-number-smaller g c = let len = c.in-Some.ensures.len in omega (arith, len)

pub loop-number-preserved : goal.loop-number-preserved
loop-number-preserved g c =
    let rules = c.args.rules.now in
    let e = event_view c.args.event.now in
    let has = g.A.Addresses.has_one c.args.addresses.now in
    let left = popped-in c.loop-number.touched c.pop.new.self c.in-Some.number c.in-Some.ensures.last in
    let moved : (n : ℕ) → held_in c.touch.new.self n ≡ _ = λ n. c.in_ok-touch.ensures.touched n
    ∙ ap (λ b. if c.in-Some.number == n then option_and_then (held_next rules e c.args.address.now b) (held_in c.loop-number.self n) else held_in c.loop-number.self n) c.is_served-has_consumer.ensures in (
      still-within rules e c.args.address.now has (held_in c.args.self.now) (held_in c.loop-number.self) (held_in c.touch.new.self) (is_among c.args.touched) (is_among c.loop-number.touched) (is_among c.pop.new.self) c.in-Some.number
          c.loop-number.invariant.0 c.loop-number.invariant.1 c.in-Some.ensures.left left moved,
      one-more rules e c.args.address.now has (held_in c.args.self.now) (held_in c.loop-number.self) (held_in c.touch.new.self) (is_among c.args.touched) (is_among c.loop-number.touched) (is_among c.pop.new.self) c.in-Some.number
          c.loop-number.invariant.0 c.loop-number.invariant.1 c.in-Some.ensures.left left moved,
      λ grouped. c.in_ok-touch.ensures.grouped (c.loop-number.invariant.2 grouped),
      c.touch.ensures.gone ∙ c.loop-number.invariant.3,
    )

pub returns-clause-touched : goal.returns-clause-touched
returns-clause-touched g c = λ n.
    let none = none-left c.loop-number.touched n c.in_default.ensures.found.1 in
    all-moved c.args.rules.now (event_view c.args.event.now) c.args.address.now (g.A.Addresses.has_one c.args.addresses.now) (held_in c.args.self.now n) (is_among c.args.touched n) (is_among c.loop-number.touched n) _ none (c.loop-number.invariant.1 n)

pub returns-clause-grouped : goal.returns-clause-grouped
returns-clause-grouped g c = c.loop-number.invariant.2

pub returns-clause-gone : goal.returns-clause-gone
returns-clause-gone g c = c.loop-number.invariant.3

pub returns-in_err-touch-clause-gone : goal.returns-in_err-touch-clause-gone
returns-in_err-touch-clause-gone g c = c.touch.ensures.gone ∙ c.loop-number.invariant.3

pub returns-in_err-touch-clause-refused : goal.returns-in_err-touch-clause-refused
returns-in_err-touch-clause-refused g c =
    let p = err_from_is_err_and c.from_residual.result c.from_residual.ensures.1 in
    let left = popped-in c.loop-number.touched c.pop.new.self c.in-Some.number c.in-Some.ensures.last in
    rw p.1 (c.in-Some.number, c.loop-number.invariant.0 c.in-Some.number left)
