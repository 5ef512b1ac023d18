use Rattle.std.proofs.Common.{arith, sym, subst}
use Rattle.state_answers.proofs.Moved.{AreMoved, all-moved, moved-next, none-moved}
use Rattle.state_answers.proofs.listed.listed.Goals as goal

pub loop-number-smaller : goal.loop-number-smaller
loop-number-smaller c = let len = c.in-Some.ensures.len in omega (arith, len)

pub loop-number-init : goal.loop-number-init
loop-number-init c = subst (AreMoved c.args.numbers c.args.numbers) (sym c.new-list.ensures.items) (none-moved c.args.numbers)

pub loop-number-preserved : goal.loop-number-preserved
loop-number-preserved c =
    subst (AreMoved c.args.numbers c.pop.new.self) (sym c.in_ok-push.ensures.items)
    (moved-next c.args.numbers c.loop-number.numbers c.pop.new.self c.loop-number.list.items c.in-Some.number c.loop-number.invariant c.in-Some.ensures.last c.in-Some.ensures.left)

pub returns-clause-same : goal.returns-clause-same
returns-clause-same c = all-moved c.args.numbers c.loop-number.numbers c.loop-number.list.items c.loop-number.invariant c.in_default.ensures.found.1

pub returns-clause-distinct : goal.returns-clause-distinct
returns-clause-distinct c = c.loop-number.invariant.distinct
