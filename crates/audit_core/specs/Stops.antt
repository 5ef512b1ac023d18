-- Where and why an audit of a capture stops.
use Rattle.std.specs.Prelude.{◌≡◌, ℕ, ◌<◌, ◌≤◌, length, None, Err}
use Rattle.capture_form.specs.declared.rules.Form.{Form}
use Rattle.capture_form.specs.declared.rules.Form.TheVariants.{One, Two}
use Rattle.capture_form.specs.Text.{Trace, text}
use Rattle.audit_core.specs.declared.judging.Stop.{Stop}
use Rattle.audit_core.specs.declared.judging.Stop.TheVariants as stops
use Rattle.audit_core.specs.declared.verdict.Refusal.{Refusal}
use Rattle.audit_core.specs.declared.verdict.Refusal.TheVariants.{Broken, Memory}
use Rattle.audit_core.specs.declared.verdict.Verdict.{Verdict}
use Rattle.audit_core.specs.declared.verdict.Verdict.TheVariants.{Refused, NoMemory}
use Rattle.audit_core.specs.Verdict.{broken_in, answer_of, first_of}

-- where the first rule begins: behind the magic, the mark of form Two, and the number of rules
abbrev pub rules_start : Form → ℕ
rules_start One = 10
rules_start (Two anonymous) = 11

-- where a refusal of the record of a number stops it
abbrev pub stop_of : ℕ → Refusal → Stop
stop_of number (Broken broken clause) = stops.Broken broken clause
stop_of number Memory = stops.AtRecord number

-- why the capture is not accepted
abbrev pub refusal_on : Stop → Refusal
refusal_on (stops.Broken number clause) = Broken number clause
refusal_on stops.AtRules = Memory
refusal_on (stops.AtRecord number) = Memory

-- the record at which it stops for want of memory is one of the capture
abbrev pub stops_within : Stop → Trace → Type 0
stops_within (stops.Broken number clause) capture = Unit {0}
stops_within stops.AtRules capture = Unit {0}
stops_within (stops.AtRecord number) capture = number ≤ length capture.records

-- the verdict of the text of the capture: want of memory stands at the first rule, or at the record
abbrev pub verdict_on : Trace → Stop → Verdict
verdict_on capture (stops.Broken number clause) = Refused number clause
verdict_on capture stops.AtRules = NoMemory (rules_start capture.rules.form)
verdict_on capture (stops.AtRecord number) = NoMemory (length (text (first_of number capture)))

-- what that says of the capture
abbrev pub StopsAudit : Trace → Stop → Type 0
StopsAudit capture (stops.Broken number clause) = answer_of capture ≡ Err (Broken number clause)
StopsAudit capture stops.AtRules = 0 < length capture.rules.list
StopsAudit capture (stops.AtRecord number) = (number < length capture.records) × (broken_in (first_of number capture) ≡ None)
