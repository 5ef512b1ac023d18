use Rattle.std.proofs.Common.{◌∙◌}
use Rattle.amqp_perf.specs.declared.descriptor.Outcome.TheVariants.{Accepted}
use Rattle.state_verdicts.specs.Verdicts.{awaits_in, is_of_copy}
use Rattle.state_verdicts.specs.declared.verdicts.CopyVerdict.{CopyVerdict}
use Rattle.state_verdicts.proofs.TableSteps.{one-goes}
use Rattle.state_verdicts.proofs.verdicts.Verdicts.remove_all.Goals as goal

abbrev any_one : CopyVerdict
any_one = record { link = 0; delivery = 0; outcome = Accepted }

pub loop-verdict-preserved : goal.loop-verdict-preserved
loop-verdict-preserved c = (
  λ link n.
      one-goes (is_of_copy link n) c.args.given.now c.loop-verdict.verdict-index any_one c.loop-verdict-test.true (awaits_in c.args.self.now link n) (awaits_in c.loop-verdict.self link n) _
      (c.loop-verdict.invariant.0 link n) (c.remove.ensures.awaits link n),
  λ n outcome. c.remove.ensures.had n outcome ∙ c.loop-verdict.invariant.1 n outcome,
  λ were. c.remove.ensures.mirrored (c.loop-verdict.invariant.2 were),
  c.remove.ensures.gone ∙ c.loop-verdict.invariant.3,
)
