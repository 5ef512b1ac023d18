use Rattle.std.proofs.Common.{◌-◌, ◌+◌, ap, ◌∙◌, ℕ, List, [], drop, get_or, Bor, arith}
use Rattle.std.proofs.lemmas.List.{get_or_default}
use Rattle.amqp_cuts.specs.Joined.{joined}
use Rattle.amqp_cuts.proofs.Slices.{drop_next}
use Rattle.amqp_cuts.proofs.parts.PartsCuts.part_at.Goals as goal

pub loop-part-preserved : goal.loop-part-preserved
loop-part-preserved c =
    let parts = c.args.self.now.parts.now in
    let i = c.loop-part.part-index in
    let none : Bor (List ℕ) = record { ref_ptr = (0, 0); now = [] } in
    ap (λ (n : ℕ). drop (c.loop-part.left - n) (joined (drop (i + 1) parts))) c.len-left.ensures
    ∙ drop_next parts i c.loop-part.left (get_or parts i none) c.loop-part-test.true (get_or_default parts i none (get_or parts i none) c.loop-part-test.true) (omega (arith, c.if-left-len.false, c.len.ensures))
    ∙ c.loop-part.invariant
