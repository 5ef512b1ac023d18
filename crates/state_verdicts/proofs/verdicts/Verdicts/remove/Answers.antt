use Rattle.std.proofs.Common.{sym, ap, ◌∙◌, ◌&&◌, not, ◌==◌}
use Rattle.state_verdicts.specs.Verdicts.{awaits_in}
use Rattle.state_verdicts.proofs.TableSteps.{and_swapped}
use Rattle.state_verdicts.proofs.verdicts.Verdicts.remove.Goals as goal

pub returns-clause-mirrored : goal.returns-clause-mirrored
returns-clause-mirrored c = λ were link n.
    c.remove-2.ensures.left n link
    ∙ (ap (λ b. b && not (c.args.delivery == n && (c.args.link == link))) (were link n)
    ∙ (ap (λ b. awaits_in c.args.self.now link n && not b) (and_swapped (c.args.delivery == n) (c.args.link == link)) ∙ sym (c.remove.ensures.left link n)))
