use Rattle.std.proofs.Common.{refl}
use Rattle.audit_core.proofs.auditor.Auditor.over.Goals as goal

pub returns-clause-follows : goal.returns-clause-follows
returns-clause-follows c =
    let stands = c.requires c.args.rules in
    record { stands = (refl, stands); counted = stands.1.0; lawful = refl; runs = refl }
