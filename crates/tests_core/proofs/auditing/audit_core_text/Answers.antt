use Rattle.std.proofs.Common.{ap, subst, ◌∙◌}
use Rattle.capture_form.specs.Text.{IsCapture, text}
use Rattle.audit_core.specs.Verdict.{Answers}
use Rattle.tests_core.proofs.auditing.audit_core_text.Goals as goal

pub returns : goal.returns
returns c =
    c.lawful_text.ensures (record { rules = c.args.core.now.rules; records = c.args.core.now.records }) c.audit_bytes.result
    (subst IsCapture c.capture-capture.ensures.value c.rules.ensures.capture)
    c.capture-capture.ensures.lawful
    (subst (λ octets. Answers octets c.audit_bytes.result) (c.as_slice.ensures.value ∙ c.in_ok-text.ensures.text ∙ ap text c.capture-capture.ensures.value) c.audit_bytes.ensures.answers)
