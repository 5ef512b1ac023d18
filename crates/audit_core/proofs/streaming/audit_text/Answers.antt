use Rattle.capture_form.specs.Reader.{left_of}
use Rattle.audit_core.proofs.ReadSteps.{kept_known}
use Rattle.audit_core.proofs.Watches.{sure_kept}
use Rattle.audit_core.proofs.streaming.audit_text.Goals as goal

pub returns-clause-answers : goal.returns-clause-answers
returns-clause-answers g c = c.audit_as.ensures.answers (sure_kept c.audit_as.result)

pub returns-clause-kept : goal.returns-clause-kept
returns-clause-kept g c = kept_known (left_of g.R.Read.remaining c.args.text.now) c.audit_as.result (c.audit_as.ensures.answers (sure_kept c.audit_as.result))

pub returns-clause-watched : goal.returns-clause-watched
returns-clause-watched g c = c.audit_as.ensures.watched (sure_kept c.audit_as.result)
