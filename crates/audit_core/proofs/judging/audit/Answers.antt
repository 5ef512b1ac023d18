use Rattle.std.proofs.Common.{Err, sym, subst}
use Rattle.audit_core.specs.Verdict.{AnswersCapture}
use Rattle.audit_core.proofs.Answered.{answers_stop}
use Rattle.audit_core.proofs.judging.audit.Goals as goal

pub returns-in-Err : goal.returns-in-Err
returns-in-Err c =
    subst (λ r. AnswersCapture c.args.capture.now (Err r)) (sym c.refusal.ensures) (answers_stop c.args.capture.now c.in-Err.stop c.in-Err.ensures.stopped)
