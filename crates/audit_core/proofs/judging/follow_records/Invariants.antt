use Rattle.std.proofs.Common.{◌≡◌, false, take}
use Rattle.audit_core.specs.Auditor.{Follows, forgets_by}
use Rattle.audit_core.proofs.judging.follow_records.Given as goal

abbrev pub invariant-loop-number : goal.invariant-loop-number
invariant-loop-number l = Follows l.auditor l.capture.rules (take l.number l.capture.records) × (forgets_by l.auditor ≡ false)
