use Rattle.std.proofs.Common.{sym, ◌∙◌}
use Rattle.trace_events.specs.History.{history}
use Rattle.trace_events.proofs.Judged.{history-judged}
use Rattle.trace_events.specs.View.{incoming_view}
use Rattle.state_verdicts.proofs.Answered.{all-is}
use Rattle.state_verdicts.proofs.verdicts.Verdicts.has_all.Goals as goal

pub returns : goal.returns
returns c = λ rules records are found.
    let d = incoming_view c.args.delivery.now in
    all-is rules (history rules records) (history-judged rules records) d found c.has_all_of.result
    (λ empty link. sym (are.mirrored link d.number ∙ are.awaits link d.number) ∙ c.has_all_of.ensures.none.0 empty link, λ none. c.has_all_of.ensures.none.1 (λ link. (are.mirrored link d.number ∙ are.awaits link d.number) ∙ none link))
