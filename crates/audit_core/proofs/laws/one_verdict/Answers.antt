use Rattle.audit_core.proofs.Verdicts.{some_verdict, only_verdict}
use Rattle.audit_core.proofs.laws.one_verdict.Goals as goal

pub returns-clause-some : goal.returns-clause-some
returns-clause-some c = some_verdict

pub returns-clause-no_other : goal.returns-clause-no_other
returns-clause-no_other c = only_verdict
