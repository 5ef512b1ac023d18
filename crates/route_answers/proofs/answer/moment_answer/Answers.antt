use Rattle.std.proofs.Common.{subst}
use Rattle.trace_events.specs.View.{event_view, moment_view}
use Rattle.route_answers.specs.Replies.{IsAnswerableAt}
use Rattle.route_answers.proofs.answer.moment_answer.Goals as goal

pub returns-in-In-clause-short : goal.returns-in-In-clause-short
returns-in-In-clause-short g c = λ history is.
    c.body_answer.ensures.short history (subst (λ m. IsAnswerableAt (event_view c.args.event.now) history (moment_view m)) c.in-In.is is.at)
