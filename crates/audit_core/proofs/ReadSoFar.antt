-- How far a text from a reader was read and judged.
use Rattle.std.proofs.Common.{◌≡◌, ℕ, List, length, Option, None}
use Rattle.std.specs.Io.KnownBytes.{Consumes}
use Rattle.capture_form.specs.declared.records.Record.{Record}
use Rattle.capture_form.specs.declared.reader.Reader.{Reader}
use Rattle.capture_form.specs.Rules.{RuleSet}
use Rattle.capture_form.specs.Text.{IsCapture, records_text, text}
use Rattle.capture_form.specs.Reader.{left_of, offset_of, fault_of}
use Rattle.audit_core.specs.declared.auditor.Auditor.{Auditor}
use Rattle.audit_core.specs.Auditor.{Follows}

-- records of these rules were read from what was left, taken by the auditor, and seen
pub record ReadSoFar {R : Type 0} (remaining : R → Option (List ℕ)) (rules : RuleSet) (left : Option (List ℕ)) (reader : Reader R) (auditor : Auditor) (offset : ℕ) (saw : List Record → Type 0) : Type 0 where
  pub records : List Record
  pub bounds : IsCapture (record { rules = rules; records = records })
  pub follows : Follows auditor rules records
  pub read : Consumes left (left_of remaining reader) (records_text records)
  pub place : offset ≡ length (text (record { rules = rules; records = records }))
  pub at : offset_of reader ≡ offset
  pub runs : fault_of reader ≡ None
  pub seen : saw records
