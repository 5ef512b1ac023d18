use Rattle.std.proofs.Common.{◌≡◌, sym, subst, ◌∙◌, Bool, true, false}
use Rattle.std.specs.Prelude.{IfSome, ◌++◌}
use Rattle.capture_form.specs.Rules.{AreRules, RuleSet, no_rules}
use Rattle.capture_form.specs.Reader.{left_of}
use Rattle.capture_form.specs.Text.{head_text}
use Rattle.audit_core.specs.Verdict.{AnswersRead, AreRefused, is_sure}
use Rattle.audit_core.specs.declared.verdict.Verdict.{Verdict}
use Rattle.audit_core.specs.Watching.{Watched}
use Rattle.audit_core.proofs.ReadSteps.{head_known, read_known, refused_known}
use Rattle.audit_core.proofs.Watches.{seen_known, head_seen, sure_fault}
use Rattle.audit_core.proofs.Unread.{unread_fault}
use Rattle.audit_core.proofs.streaming.audit_as.Goals as goal

pub audit_read-requires-clause-rules : goal.audit_read-requires-clause-rules
audit_read-requires-clause-rules g c = subst AreRules (sym c.auditor_of-auditor.ensures.follows.stands.0) c.in-Ok.ensures.rules

pub returns-in-Ok-clause-answers : goal.returns-in-Ok-clause-answers
returns-in-Ok-clause-answers g c = λ sure.
    let known = left_of g.R.Read.remaining c.args.text.now in
    read_known known (left_of g.R.Read.remaining c.read_head.new.self) c.in-Ok.rules c.audit_read.result c.in-Ok.ensures.head (subst (λ (rs : RuleSet). IfSome (left_of g.R.Read.remaining c.read_head.new.self) (λ left. AnswersRead (head_text rs ++ left) c.audit_read.result)) c.auditor_of-auditor.ensures.follows.stands.0
    (c.audit_read.ensures.answers (subst (λ (forgets : Bool). is_sure forgets c.audit_read.result ≡ true) (sym c.auditor_of-auditor.ensures.kind) sure)))

pub returns-in-Err-clause-answers : goal.returns-in-Err-clause-answers
returns-in-Err-clause-answers g c = λ sure.
    let known = left_of g.R.Read.remaining c.args.text.now in
    subst (λ v. IfSome known (λ octets. AnswersRead octets v)) (sym c.verdict_of_fault.ensures) (head_known known c.in-Err.fault c.in-Err.ensures.exact)

pub returns-in-Ok-clause-watched : goal.returns-in-Ok-clause-watched
returns-in-Ok-clause-watched g c =
    λ sure unseen.
    let known = left_of g.R.Read.remaining c.args.text.now in
    seen_known (g.W.Watcher.saw c.args.watcher.now) (g.W.Watcher.saw_refused c.args.watcher.now) known (left_of g.R.Read.remaining c.read_head.new.self) c.in-Ok.rules c.audit_read.new.watcher c.audit_read.result c.in-Ok.ensures.head
    (subst (λ (rs : RuleSet). IfSome (left_of g.R.Read.remaining c.read_head.new.self) (λ left. Watched (g.W.Watcher.saw c.args.watcher.now) (g.W.Watcher.saw_refused c.args.watcher.now) c.audit_read.new.watcher (head_text rs ++ left) c.audit_read.result)) c.auditor_of-auditor.ensures.follows.stands.0
    (c.audit_read.ensures.watched (subst (λ (forgets : Bool). is_sure forgets c.audit_read.result ≡ true) (sym c.auditor_of-auditor.ensures.kind) sure) (unseen _)))

pub returns-in-Err-clause-watched : goal.returns-in-Err-clause-watched
returns-in-Err-clause-watched g c =
    λ sure unseen.
    let known = left_of g.R.Read.remaining c.args.text.now in
    subst (λ v. IfSome known (λ octets. Watched (g.W.Watcher.saw c.args.watcher.now) (g.W.Watcher.saw_refused c.args.watcher.now) c.args.watcher.now octets v)) (sym c.verdict_of_fault.ensures)
    (head_seen (g.W.Watcher.saw c.args.watcher.now) (g.W.Watcher.saw_refused c.args.watcher.now) known c.args.watcher.now c.in-Err.fault (unseen no_rules) c.in-Err.ensures.exact)

pub returns-in-Err-clause-unreadable : goal.returns-in-Err-clause-unreadable
returns-in-Err-clause-unreadable g c = λ number is.
    c.in-Err.ensures.unreadable (unread_fault c.in-Err.fault.kind c.in-Err.fault.offset number (sym c.verdict_of_fault.ensures ∙ is))

pub returns-in-Ok-clause-refused : goal.returns-in-Ok-clause-refused
returns-in-Ok-clause-refused g c = λ unsure.
    let known = left_of g.R.Read.remaining c.args.text.now in
    refused_known known (left_of g.R.Read.remaining c.read_head.new.self) c.in-Ok.rules c.in-Ok.ensures.head
    (subst (λ (rs : RuleSet). IfSome (left_of g.R.Read.remaining c.read_head.new.self) (λ left. AreRefused (head_text rs ++ left))) c.auditor_of-auditor.ensures.follows.stands.0
    (c.audit_read.ensures.refused (subst (λ (forgets : Bool). is_sure forgets c.audit_read.result ≡ false) (sym c.auditor_of-auditor.ensures.kind) unsure)))

pub returns-in-Err-clause-refused : goal.returns-in-Err-clause-refused
returns-in-Err-clause-refused g c = λ unsure.
    let never : true ≡ false = sym (sure_fault c.args.forgets c.in-Err.fault.kind c.in-Err.fault.offset) ∙ subst (λ (v : Verdict). is_sure c.args.forgets v ≡ false) c.verdict_of_fault.ensures unsure in
    absurd cc
