use Rattle.std.proofs.Common.{◌∙◌}
use Rattle.amqp_perf.specs.declared.descriptor.Outcome.TheVariants.{Modified}
use Rattle.trace_events.specs.BestVerdict.{is_same_outcome}
use Rattle.state_verdicts.specs.Verdicts.{awaits_in, had_in}
use Rattle.state_verdicts.proofs.TableSteps.{step-modified}
use Rattle.state_verdicts.proofs.verdicts.Verdicts.end_one.Goals as goal

pub loop-left-preserved : goal.loop-left-preserved
loop-left-preserved c = (
  c.in_ok-left.ensures.left,
  λ at n other. c.in_ok-left.ensures.others at n other ∙ c.loop-left.invariant.1 at n other,
  λ n now. c.loop-left.invariant.2 n (c.in_ok-left.ensures.within n now),
  λ n outcome.
      step-modified (is_same_outcome outcome Modified) (had_in c.args.self.now n outcome) (had_in c.loop-left.self n outcome) _ (awaits_in c.args.self.now c.args.link n) (awaits_in c.loop-left.self c.args.link n) _
      (c.loop-left.invariant.3 n outcome) (c.in_ok-left.ensures.had n outcome) (c.in_ok-left.ensures.within n) (c.loop-left.invariant.2 n),
  λ were. c.in_ok-left.ensures.mirrored (c.loop-left.invariant.4 were),
  c.end_first.ensures.gone ∙ c.loop-left.invariant.5,
)
