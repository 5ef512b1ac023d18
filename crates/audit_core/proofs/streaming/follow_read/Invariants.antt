use Rattle.std.proofs.Common.{◌≡◌, ◌-◌, []}
use Rattle.capture_form.specs.Reader.{left_of}
use Rattle.audit_core.specs.Auditor.{forgets_by, rules_of}
use Rattle.audit_core.proofs.ReadSoFar.{ReadSoFar}
use Rattle.audit_core.proofs.streaming.follow_read.Given as goal

abbrev pub invariant-records : goal.invariant-records
invariant-records g l = (forgets_by l.auditor ≡ forgets_by l.fn.auditor) × ReadSoFar g.R.Read.remaining (rules_of l.fn.auditor) (left_of g.R.Read.remaining l.fn.records) l.records l.auditor l.offset
    (λ records. g.W.Watcher.saw l.fn.watcher l.fn.watcher (rules_of l.fn.auditor) [] → g.W.Watcher.saw l.fn.watcher l.watcher (rules_of l.fn.auditor) records)

abbrev pub decreases-records : goal.decreases-records
decreases-records g l = 9223372036854775807 - l.offset
