use Rattle.std.proofs.Common.{◌≡◌, sym, ap, ◌∙◌, ℕ, ◌-◌, length, Some, arith}
use Rattle.amqp_cuts.specs.declared.section.Named.{Named}
use Rattle.amqp_cuts.specs.Sections.{section_at, to_within}
use Rattle.amqp_cuts.proofs.Messages.{stops, ends, passes, none_left}
use Rattle.amqp_cuts.proofs.message.find_address.Goals as goal

pub loop-init : goal.loop-init
loop-init g c =
    let all = g.C.Cuts.octets c.args.payload.now in
    let whole : c.len-to.result - 0 ≡ length all = omega (arith, c.len-to.ensures) in
    (omega arith, ap (λ (n : ℕ). to_within all n 0) whole)

pub returns-in_err-name-clause-exact : goal.returns-in_err-name-clause-exact
returns-in_err-name-clause-exact g c =
    let all = g.C.Cuts.octets c.args.payload.now in
    c.from_residual.ensures
    ∙ stops all c.len-to.result c.loop.counter c.loop.at (to_within all (length all) 0) c.loop-test.true
    (ap (section_at all c.loop.at) (sym c.len-to.ensures) ∙ sym c.section.ensures.exact ∙ c.in_err-name.was) c.loop.invariant.1

pub returns-in-Properties-clause-exact : goal.returns-in-Properties-clause-exact
returns-in-Properties-clause-exact g c =
    let all = g.C.Cuts.octets c.args.payload.now in
    c.address_in.ensures.exact
    ∙ ends all c.len-to.result c.loop.counter c.loop.at c.in_ok-name.value c.in_ok-name.end (to_within all (length all) 0) c.loop-test.true
    (ap (section_at all c.loop.at) (sym c.len-to.ensures) ∙ sym c.section.ensures.exact ∙ c.in_ok-name.was ∙ ap (λ (n : Named). Some (n, c.in_ok-name.value, c.in_ok-name.end)) c.in-Properties.is) c.loop.invariant.1

pub loop-preserved : goal.loop-preserved
loop-preserved g c =
    let all = g.C.Cuts.octets c.args.payload.now in (
      c.in_ok-name.ensures.within.2,
      passes all c.len-to.result c.loop.counter c.loop.at c.in_ok-name.value c.in_ok-name.end (to_within all (length all) 0) c.loop-test.true
          (ap (section_at all c.loop.at) (sym c.len-to.ensures) ∙ sym c.section.ensures.exact ∙ c.in_ok-name.was ∙ ap (λ (n : Named). Some (n, c.in_ok-name.value, c.in_ok-name.end)) c.in-PassedOver.is) c.loop.invariant.1,
    )

pub returns-clause-exact : goal.returns-clause-exact
returns-clause-exact g c =
    let all = g.C.Cuts.octets c.args.payload.now in
    none_left all c.len-to.result c.loop.counter c.loop.at (to_within all (length all) 0) c.loop-test.false c.loop.invariant.1
