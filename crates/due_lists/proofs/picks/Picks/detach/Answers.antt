use Rattle.std.proofs.Common.{[], refl}
use Rattle.due_lists.proofs.DetachedLinks.{all-detached, detached-next}
use Rattle.due_lists.proofs.picks.Picks.detach.Goals as goal

pub loop-link-init : goal.loop-link-init
loop-link-init c = ([], λ test. refl, λ past count. count)

pub loop-link-preserved : goal.loop-link-preserved
loop-link-preserved c =
    detached-next c.args.ended.now c.loop-link.link-index _ c.loop-link-test.true
    c.args.self.now.table c.loop-link.self.table c.detach_one.new.self.table c.loop-link.invariant c.detach_one.ensures

pub returns : goal.returns
returns c = all-detached c.args.ended.now c.loop-link.link-index c.loop-link-test.false c.args.self.now.table c.loop-link.self.table c.loop-link.invariant
