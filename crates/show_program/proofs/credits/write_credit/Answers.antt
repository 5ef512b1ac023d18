use Rattle.std.proofs.Common.{subst}
use Rattle.std.specs.Prelude.{IfOk, IfSome}
use Rattle.audit_core.specs.Verdict.{AnswersRead}
use Rattle.show_program.proofs.credits.write_credit.Goals as goal

pub returns-clause-explained : goal.returns-clause-explained
returns-clause-explained g c = λ written named drawn.
    let told = c.tell_credit.ensures.explained written named drawn in
    record {
      verdict = told.0;
      told = told.2;
      same_status = told.3;
      answers = subst (λ r. IfOk r (λ verdict. IfSome (g.R.Read.remaining c.args.input) (λ octets. AnswersRead octets verdict))) told.1 c.credit_file.ensures.answers;
    }
