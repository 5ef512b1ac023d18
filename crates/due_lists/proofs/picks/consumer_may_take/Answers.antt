use Rattle.std.proofs.Common.{◌≡◌, ◌∙◌, ap, sym, Some}
use Rattle.trace_events.specs.Words.{is_some_and}
use Rattle.trace_events.specs.History.{history}
use Rattle.trace_events.proofs.Judged.{history-judged}
use Rattle.trace_events.specs.TransferClause.{may_take}
use Rattle.trace_events.specs.View.{link_view}
use Rattle.state_tables.specs.ConsumerLinks.{consumer_at}
use Rattle.due_lists.proofs.Eligible.{taken-lives}
use Rattle.due_lists.proofs.picks.consumer_may_take.Goals as goal

pub returns-in-Some : goal.returns-in-Some
returns-in-Some c = λ rules records tables.
    let past = history rules records in
    let at : consumer_at c.args.number past ≡ Some (link_view c.in-Some.link) = sym (c.in-Some.ensures ∙ tables.1.1.1.1.1.0 c.args.number) in
    c.may_take.ensures rules past tables (taken-lives rules past (history-judged rules records) c.args.number (link_view c.in-Some.link) at)
    ∙ ap (λ o. is_some_and o (may_take past)) (sym at)
