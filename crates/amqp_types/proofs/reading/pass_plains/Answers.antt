use Rattle.std.proofs.Common.{◌≡◌, ◌-◌, ℕ, subst, arith}
use Rattle.amqp_types.specs.Items.{ArePassed}
use Rattle.amqp_types.proofs.Loop.{plains_begin, plains_on}
use Rattle.amqp_types.proofs.reading.pass_plains.Goals as goal

pub loop-passed-init : goal.loop-passed-init
loop-passed-init c =
    let all : c.args.count ≡ c.args.count - 0 = omega arith in
    subst (λ (n : ℕ). ArePassed c.args.count c.args.bytes.now n c.args.bytes.now) all (plains_begin c.args.count c.args.bytes.now)

pub loop-passed-preserved : goal.loop-passed-preserved
loop-passed-preserved c =
    plains_on c.args.count c.loop-passed.passed c.args.bytes.now c.loop-passed.rest.now c.in-Some.after.now c.loop-passed-test.true c.loop-passed.invariant c.in-Some.ensures

pub returns : goal.returns
returns c =
    let none : c.args.count - c.loop-passed.passed ≡ 0 = omega (arith, c.loop-passed-test.false) in
    subst (λ (n : ℕ). ArePassed c.args.count c.args.bytes.now n c.loop-passed.rest.now) none c.loop-passed.invariant
