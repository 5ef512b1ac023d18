use Rattle.std.proofs.Common.{ap, ◌∙◌, ◌&&◌, ◌||◌, get_or}
use Rattle.amqp_perf.specs.declared.descriptor.Outcome.TheVariants.{Accepted}
use Rattle.state_verdicts.specs.Verdicts.{had_in, is_taken, is_verdict_of}
use Rattle.state_verdicts.specs.declared.verdicts.CopyVerdict.{CopyVerdict}
use Rattle.state_verdicts.proofs.TableSteps.{one-comes}
use Rattle.state_verdicts.proofs.verdicts.Verdicts.note_all.Goals as goal

abbrev any_one : CopyVerdict
any_one = record { link = 0; delivery = 0; outcome = Accepted }

pub loop-verdict-preserved : goal.loop-verdict-preserved
loop-verdict-preserved c = (
  λ link n. c.in_ok-note_awaited.ensures.awaits link n ∙ c.loop-verdict.invariant.0 link n,
  λ n outcome.
      one-comes (is_taken c.args.self.now n outcome) c.args.given.now c.loop-verdict.verdict-index any_one c.loop-verdict-test.true (had_in c.args.self.now n outcome) (had_in c.loop-verdict.self n outcome) _
      (c.loop-verdict.invariant.1 n outcome)
      (c.in_ok-note_awaited.ensures.had n outcome ∙ ap (λ b. had_in c.loop-verdict.self n outcome || b && is_verdict_of n outcome (get_or c.args.given.now c.loop-verdict.verdict-index any_one)) (c.loop-verdict.invariant.0 _ _)),
  λ were. c.in_ok-note_awaited.ensures.mirrored (c.loop-verdict.invariant.2 were),
  c.note_awaited.ensures.gone ∙ c.loop-verdict.invariant.3,
)
