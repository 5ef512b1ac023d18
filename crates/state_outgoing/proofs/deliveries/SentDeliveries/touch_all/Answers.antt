use Rattle.std.proofs.Common.{ap, refl, ◌∙◌, ◌||◌, List, arith}
use Rattle.std.specs.List.{list_any}
use Rattle.state_verdicts.specs.declared.verdicts.CopyVerdict.{CopyVerdict}
use Rattle.number_groups.specs.Numbers.{is_among}
use Rattle.trace_events.specs.View.{event_view}
use Rattle.state_outgoing.specs.Given.{gives, says}
use Rattle.state_outgoing.specs.SentTables.{sent_in}
use Rattle.state_outgoing.proofs.SentTaken.{nothing-moved, all-moved, still-within, one-more, here, on, popped-in, none-left, said-one, said-all}
use Rattle.state_outgoing.proofs.deliveries.SentDeliveries.touch_all.Goals as goal

pub loop-number-init : goal.loop-number-init
loop-number-init c = ((λ n is. is), (λ n. nothing-moved (event_view c.args.event.now) (sent_in c.args.self.now n) (is_among c.args.touched n)), (λ grouped. grouped), refl, refl, (λ link n outcome. ap (λ (vs : List CopyVerdict). list_any (says link n outcome) vs || list_any (λ m. gives link n outcome (on (event_view c.args.event.now) (sent_in c.args.self.now m))) c.args.touched) c.new-given.ensures.items))

pub loop-number-smaller : goal.loop-number-smaller
loop-number-smaller c = let len = c.in-Some.ensures.len in omega (arith, len)

pub loop-number-preserved : goal.loop-number-preserved
loop-number-preserved c =
    let e = event_view c.args.event.now in
    let left = popped-in c.loop-number.touched c.pop.new.self c.in-Some.number c.in-Some.ensures.last in (
      still-within e (sent_in c.args.self.now) (sent_in c.loop-number.self) (sent_in c.touch.new.self) (is_among c.args.touched) (is_among c.loop-number.touched) (is_among c.pop.new.self) c.in-Some.number
          c.loop-number.invariant.0 c.loop-number.invariant.1 c.in-Some.ensures.left left c.in_ok-touch.ensures.touched,
      one-more e (sent_in c.args.self.now) (sent_in c.loop-number.self) (sent_in c.touch.new.self) (is_among c.args.touched) (is_among c.loop-number.touched) (is_among c.pop.new.self) c.in-Some.number
          c.loop-number.invariant.0 c.loop-number.invariant.1 c.in-Some.ensures.left left c.in_ok-touch.ensures.touched,
      (λ grouped. c.in_ok-touch.ensures.grouped (c.loop-number.invariant.2 grouped)),
      c.in_ok-touch.ensures.same ∙ c.loop-number.invariant.3,
      c.in_ok-touch.ensures.gone ∙ c.loop-number.invariant.4,
      λ link n outcome. said-one (λ m. gives link n outcome (on e (sent_in c.args.self.now m))) c.loop-number.touched c.pop.new.self c.in-Some.number c.in-Some.ensures.last _ _ _ _
          (c.loop-number.invariant.5 link n outcome) (c.in_ok-push_some.ensures (says link n outcome))
          (c.in_ok-touch.ensures.given link n outcome
          ∙ ap (gives link n outcome) (here e (sent_in c.args.self.now) (sent_in c.loop-number.self) (sent_in c.touch.new.self) (is_among c.args.touched) (is_among c.loop-number.touched) (is_among c.pop.new.self) c.in-Some.number
          c.loop-number.invariant.0 c.loop-number.invariant.1 c.in-Some.ensures.left left c.in_ok-touch.ensures.touched c.in-Some.number refl)),
    )

pub returns-clause-touched : goal.returns-clause-touched
returns-clause-touched c = λ n.
    let none = none-left c.loop-number.touched n c.in_default.ensures.found.1 in
    all-moved (event_view c.args.event.now) (sent_in c.args.self.now n) (is_among c.args.touched n) (is_among c.loop-number.touched n) _ none (c.loop-number.invariant.1 n)

pub returns-clause-given : goal.returns-clause-given
returns-clause-given c = λ link n outcome.
    said-all (λ m. gives link n outcome (on (event_view c.args.event.now) (sent_in c.args.self.now m))) c.loop-number.touched c.in_default.ensures.found.1 _ _ (c.loop-number.invariant.5 link n outcome)

pub returns-clause-grouped : goal.returns-clause-grouped
returns-clause-grouped c = c.loop-number.invariant.2

pub returns-clause-same : goal.returns-clause-same
returns-clause-same c = c.loop-number.invariant.3

pub returns-clause-gone : goal.returns-clause-gone
returns-clause-gone c = c.loop-number.invariant.4
