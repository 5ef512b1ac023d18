use Rattle.std.proofs.Common.{◌∙◌}
use Rattle.trace_events.specs.History.{history}
use Rattle.trace_events.proofs.Judged.{history-judged}
use Rattle.trace_events.specs.View.{incoming_view}
use Rattle.state_verdicts.specs.Verdicts.{had_in}
use Rattle.state_verdicts.proofs.Answered.{best-by, best-is}
use Rattle.state_verdicts.proofs.verdicts.Verdicts.best.Goals as goal

pub returns : goal.returns
returns c = λ rules records are kept found each.
    let d = incoming_view c.args.delivery.now in
    let past = history rules records in
    c.best_of.ensures
    ∙ (best-by rules past (history-judged rules records) d found (had_in c.args.self.now d.number) (λ outcome. are.had d.number outcome kept) ∙ best-is rules past (history-judged rules records) d found each)
