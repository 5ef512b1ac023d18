use Rattle.std.proofs.Common.{◌≡◌, refl, subst, ◌∙◌, arith, false, nat_eq}
use Rattle.number_groups.specs.Groups.{numbers}
use Rattle.state_tables.specs.Copies.{stands}
use Rattle.state_tables.proofs.TableSteps.{cleared, empty-among}
use Rattle.state_tables.proofs.copies.Copies.clear.Goals as goal

pub loop-left-init : goal.loop-left-init
loop-left-init c = (c.count-left.ensures.count, λ at n other. refl)

pub loop-left-smaller : goal.loop-left-smaller
loop-left-smaller c =
    let fewer = c.drop_one-left.ensures.fewer in
    let is = c.loop-left.invariant.0 in
    let lt = c.loop-left-test.true in
    omega (arith, fewer, is, lt)

pub loop-left-preserved : goal.loop-left-preserved
loop-left-preserved c = (c.drop_one-left.ensures.left, λ at n other. c.drop_one-left.ensures.others at n other ∙ c.loop-left.invariant.1 at n other)

pub returns : goal.returns
returns c = λ at n.
    let is = c.loop-left.invariant.0 in
    let none = c.loop-left-test.false in
    cleared c.args.link at (stands c.args.self.now at) (stands c.loop-left.self at) n (c.loop-left.invariant.1 at n)
    (λ same. subst (λ k. stands c.loop-left.self k n ≡ false) same (empty-among (numbers nat_eq c.loop-left.self.unsent c.args.link) n (omega (arith, is, none))))
