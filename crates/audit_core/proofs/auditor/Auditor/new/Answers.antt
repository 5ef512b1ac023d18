use Rattle.std.proofs.Common.{◌∙◌}
use Rattle.audit_core.proofs.auditor.Auditor.new.Goals as goal

pub returns : goal.returns
returns c = record { follows = c.over.ensures.follows; keeps = c.over.ensures.kind ∙ c.new.ensures.keeps }
