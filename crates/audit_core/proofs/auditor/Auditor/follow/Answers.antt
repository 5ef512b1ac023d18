use Rattle.audit_core.proofs.Taken.{goes_with}
use Rattle.audit_core.proofs.auditor.Auditor.follow.Goals as goal

pub returns-clause-taken : goal.returns-clause-taken
returns-clause-taken c = goes_with _ _ c.args.entry.now c.judge-result.result c.err-self.result c.err-self.ensures.value c.judge-result.ensures.taken
