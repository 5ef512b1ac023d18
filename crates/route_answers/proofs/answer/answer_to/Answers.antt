use Rattle.std.proofs.Common.{sym, subst, ◌∷◌}
use Rattle.trace_events.specs.View.{event_view}
use Rattle.route_answers.specs.Replies.{IsAnswerable}
use Rattle.route_answers.proofs.Answerable.{answerable}
use Rattle.route_answers.proofs.answer.answer_to.Goals as goal

pub returns-clause-says : goal.returns-clause-says
returns-clause-says g c = λ history connection m ready may is stands.
    let rules = c.args.rules.now in
    c.moment_answer.ensures.says (event_view c.args.event.now ∷ history) stands
    (subst (λ e. IsAnswerable rules e (e ∷ history)) (sym is) (answerable rules connection history ready m may))

pub returns-clause-short : goal.returns-clause-short
returns-clause-short g c = λ history connection m ready may is.
    let rules = c.args.rules.now in
    c.moment_answer.ensures.short (event_view c.args.event.now ∷ history)
    (subst (λ e. IsAnswerable rules e (e ∷ history)) (sym is) (answerable rules connection history ready m may))
