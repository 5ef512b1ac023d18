use Rattle.std.proofs.Common.{ap, sym, ◌∙◌, ◌&&◌, not}
use Rattle.std.proofs.lemmas.List.{take_all}
use Rattle.state_tables.specs.EndedLinks.{views}
use Rattle.state_tables.specs.ConsumerLinks.{has_link}
use Rattle.state_tables.specs.Copies.{stands}
use Rattle.state_tables.proofs.CopyNumbers.{and_true}
use Rattle.state_tables.proofs.TableSteps.{left-more}
use Rattle.state_tables.proofs.copies.Copies.end.Goals as goal

pub loop-link-init : goal.loop-link-init
loop-link-init c = λ link n. sym (and_true (stands c.args.self.now link n))

pub loop-link-preserved : goal.loop-link-preserved
loop-link-preserved c = λ link n.
    left-more c.args.ended.now c.loop-link.link-index _ c.loop-link-test.true (stands c.args.self.now link n) (stands c.loop-link.self link n) (stands c.clear.new.self link n) link
    (c.loop-link.invariant link n) (c.clear.ensures link n)

pub returns : goal.returns
returns c = λ link n.
    c.loop-link.invariant link n ∙ ap (λ ls. stands c.args.self.now link n && not (has_link (views ls) link)) (take_all c.loop-link.link-index c.args.ended.now c.loop-link-test.false)
