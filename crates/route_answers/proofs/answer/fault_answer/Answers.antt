use Rattle.std.proofs.Common.{subst, Some}
use Rattle.amqp_perf.specs.View.{view}
use Rattle.route_answers.specs.Replies.{AreShortTexts}
use Rattle.route_answers.proofs.answer.fault_answer.Goals as goal

pub returns-in-Refuse-clause-short : goal.returns-in-Refuse-clause-short
returns-in-Refuse-clause-short g c = λ number short.
    c.refusal.ensures.short number (subst (λ fault. AreShortTexts number (Some fault) (view c.args.performative.now)) c.in-Refuse.is short)
