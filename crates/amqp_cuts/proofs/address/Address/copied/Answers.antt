use Rattle.std.proofs.Common.{◌≡◌, ◌+◌, ◌-◌, ap, ◌∙◌, ℕ, take, arith}
use Rattle.std.proofs.lemmas.List.{length-set}
use Rattle.amqp_cuts.specs.Offsets.{window}
use Rattle.amqp_cuts.proofs.Windows.{octet_copied}
use Rattle.amqp_cuts.proofs.address.Address.copied.Goals as goal

pub loop-i-preserved : goal.loop-i-preserved
loop-i-preserved g c =
    let now = c.loop-i.invariant in (
      length-set c.loop-i.octets c.loop-i.i c.octet_of.result ∙ now.0,
      octet_copied (g.C.Cuts.octets c.args.payload.now) c.loop-i.octets c.args.at c.loop-i.i c.octet_of.result (omega (arith, now.0, c.loop-i-test.true, c.requires.few)) (omega (arith, c.loop-i-test.true, c.requires.room)) now.1 c.octet_of.ensures,
    )

pub returns : goal.returns
returns g c =
    let all : c.args.to - c.args.at ≡ c.loop-i.i = omega (arith, c.loop-i-test.false, c.loop-i.auto.i-end) in
    let end : c.args.at + c.loop-i.i ≡ c.args.to = omega (arith, all, c.requires.order) in
    ap (λ (n : ℕ). take n c.loop-i.octets) all ∙ c.loop-i.invariant.1 ∙ ap (window (g.C.Cuts.octets c.args.payload.now) c.args.at) end
