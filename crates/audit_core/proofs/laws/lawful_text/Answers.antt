use Rattle.audit_core.proofs.Verdicts.{accepted_text}
use Rattle.audit_core.proofs.laws.lawful_text.Goals as goal

pub returns : goal.returns
returns c = accepted_text
