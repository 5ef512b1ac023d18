use Rattle.std.proofs.Common.{sym, ◌∙◌}
use Rattle.trace_events.specs.History.{history}
use Rattle.trace_events.proofs.Judged.{history-judged}
use Rattle.trace_events.specs.View.{link_view}
use Rattle.state_tables.proofs.CopiesKnown.{has-unsent}
use Rattle.state_tables.proofs.copies.Copies.has_unsent.Goals as goal

pub returns : goal.returns
returns c = λ rules records are live.
    let link = c.args.link.now.number in
    has-unsent rules (history rules records) (history-judged rules records) (link_view c.args.link.now) live c.is_empty.result
    ((λ yes n. sym (are link n) ∙ c.is_empty.ensures.0 yes n), (λ none. c.is_empty.ensures.1 (λ n. are link n ∙ none n)))
