use Rattle.std.proofs.Common.{◌==◌, ◌∙◌, sym}
use Rattle.std.proofs.lemmas.List.Folds.{list_any_at}
use Rattle.std.proofs.lemmas.Result.{err_from_is_err_and}
use Rattle.amqp_perf.specs.declared.descriptor.Outcome.TheVariants.{Modified}
use Rattle.trace_events.proofs.Along.{and_first}
use Rattle.trace_events.specs.declared.event.Link.{Link}
use Rattle.trace_events.specs.BestVerdict.{is_same_outcome}
use Rattle.state_verdicts.specs.Verdicts.{awaits_in, had_in}
use Rattle.state_verdicts.proofs.TableSteps.{one-goes, one-modified}
use Rattle.state_verdicts.proofs.verdicts.Verdicts.end.Goals as goal

pub loop-link-preserved : goal.loop-link-preserved
loop-link-preserved c = (
  λ link n.
      one-goes (λ (x : Link). x.number == link) c.args.ended.now c.loop-link.link-index _ c.loop-link-test.true (awaits_in c.args.self.now link n) (awaits_in c.loop-link.self link n) _
      (c.loop-link.invariant.0 link n) (c.in_ok-end_one.ensures.awaits link n),
  λ n outcome.
      one-modified (λ (x : Link). x.number) c.args.ended.now c.loop-link.link-index _ c.loop-link-test.true (λ k. awaits_in c.args.self.now k n) (is_same_outcome outcome Modified)
      (had_in c.args.self.now n outcome) (had_in c.loop-link.self n outcome) _ _ (c.loop-link.invariant.1 n outcome) (c.loop-link.invariant.0 _ n) (c.in_ok-end_one.ensures.had n outcome),
  λ were. c.in_ok-end_one.ensures.mirrored (c.loop-link.invariant.2 were),
  c.end_one.ensures.gone ∙ c.loop-link.invariant.3,
)

pub returns-in_err-end_one-clause-refused : goal.returns-in_err-end_one-clause-refused
returns-in_err-end_one-clause-refused c =
    let p = err_from_is_err_and c.from_residual.result c.from_residual.ensures.1 in
    let m = c.in_err-end_one.ensures.refused in
    rw p.1 (
      m.0,
      list_any_at (λ (x : Link). awaits_in c.args.self.now x.number m.0) c.args.ended.now c.loop-link.link-index _ c.loop-link-test.true
          (and_first (awaits_in c.args.self.now _ m.0) _ (sym (c.loop-link.invariant.0 _ m.0) ∙ m.1)),
    )
