use Rattle.std.proofs.Common.{◌==◌, get_or, nat_eq}
use Rattle.number_groups.specs.Groups.{is_member}
use Rattle.state_verdicts.specs.Verdicts.{awaits_in}
use Rattle.state_verdicts.proofs.TableSteps.{mirrored-joined, one-awaited}
use Rattle.state_verdicts.proofs.verdicts.Verdicts.await_on.Goals as goal

pub loop-link-preserved : goal.loop-link-preserved
loop-link-preserved c = (
  λ link n.
      one-awaited c.args.links.now c.loop-link.link-index 0 c.loop-link-test.true link (c.args.number == n) (awaits_in c.args.self.now link n) (awaits_in c.loop-link.self link n) _
      (c.loop-link.invariant.0 link n) (c.in_ok-insert.ensures.joined link n),
  c.loop-link.invariant.1,
  λ were link n. mirrored-joined (c.args.number == n) (get_or c.args.links.now c.loop-link.link-index 0 == link) (is_member nat_eq c.loop-link.self.of_delivery n link) (awaits_in c.loop-link.self link n) _ _ (c.in_ok-insert-2.ensures.joined n link) (c.loop-link.invariant.2 were link n) (c.in_ok-insert.ensures.joined link n),
  c.loop-link.invariant.3,
)
