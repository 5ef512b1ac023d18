use Rattle.std.proofs.Common.{subst}
use Rattle.amqp_perf.specs.View.{view}
use Rattle.route_answers.specs.Replies.{AreShortTexts, IsHeardShort}
use Rattle.route_answers.proofs.answer.spoken_answer.Goals as goal

pub returns-in-Some-clause-short : goal.returns-in-Some-clause-short
returns-in-Some-clause-short g c = λ short.
    let e = c.args.event.now in let m = view c.args.performative.now in
    c.fault_answer.ensures.short e.number (subst (λ f. AreShortTexts e.number f m) c.in-Some.is (subst (λ b. IsHeardShort b e.number e.fault m) c.if-not-event.false short))
