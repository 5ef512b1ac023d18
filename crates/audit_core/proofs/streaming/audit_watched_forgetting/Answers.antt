use Rattle.std.proofs.Common.{◌≡◌, sym, subst, true, Option, Some, None}
use Rattle.std.specs.Prelude.{IfSome}
use Rattle.capture_form.specs.Reader.{left_of}
use Rattle.audit_core.specs.Verdict.{AnswersRead, IsKept, is_sure}
use Rattle.audit_core.specs.Watching.{Watched}
use Rattle.audit_core.specs.declared.verdict.Verdict.{Verdict}
use Rattle.audit_core.specs.declared.verdict.Verdict.TheVariants.{Accepted}
use Rattle.trace_events.specs.declared.tally.Tally.{Tally}
use Rattle.audit_core.proofs.ReadSteps.{kept_known}
use Rattle.audit_core.proofs.Unread.{kept_of, roomless, roomless_kept, roomless_seen}
use Rattle.audit_core.proofs.streaming.audit_watched_forgetting.Goals as goal

-- what is said of a verdict where it is sure is said of it where it is given
given : (P : Verdict → Type 0) (verdict : Verdict) (o : Option Verdict) → IfSome o (λ sure. (sure ≡ verdict) × (is_sure true verdict ≡ true)) → (is_sure true verdict ≡ true → P verdict) → IfSome o P
given P verdict None is told = tt
given P verdict (Some sure) is told = subst P (sym is.0) (told is.1)

pub returns-in-Ok-clause-answers : goal.returns-in-Ok-clause-answers
returns-in-Ok-clause-answers g c =
    given (λ verdict. IfSome (g.R.Read.remaining c.args.reader) (λ octets. AnswersRead octets verdict)) c.audit_as.result c.surely.result c.surely.ensures.sure
    (λ sure. kept_of (g.R.Read.remaining c.args.reader) (left_of g.R.Read.remaining c.in-Ok.text) _ c.in-Ok.ensures.left (c.audit_as.ensures.answers sure))

pub returns-in-Ok-clause-watched : goal.returns-in-Ok-clause-watched
returns-in-Ok-clause-watched g c =
    given (λ verdict. _ → IfSome (g.R.Read.remaining c.args.reader) (λ octets. Watched (g.W.Watcher.saw c.args.watcher.now) (g.W.Watcher.saw_refused c.args.watcher.now) c.audit_as.new.watcher octets verdict)) c.audit_as.result c.surely.result c.surely.ensures.sure
    (λ sure unseen. kept_of (g.R.Read.remaining c.args.reader) (left_of g.R.Read.remaining c.in-Ok.text) _ c.in-Ok.ensures.left (c.audit_as.ensures.watched sure unseen))

pub returns-in-Err-clause-answers : goal.returns-in-Err-clause-answers
returns-in-Err-clause-answers g c = roomless (g.R.Read.remaining c.args.reader)

pub returns-in-Err-clause-watched : goal.returns-in-Err-clause-watched
returns-in-Err-clause-watched g c = λ unseen. roomless_seen (g.W.Watcher.saw c.args.watcher.now) (g.W.Watcher.saw_refused c.args.watcher.now) (g.R.Read.remaining c.args.reader) c.args.watcher.now

pub returns-in-Ok-clause-kept : goal.returns-in-Ok-clause-kept
returns-in-Ok-clause-kept g c =
    let known = g.R.Read.remaining c.args.reader in
    given (λ verdict. IfSome known (λ octets. (tally : Tally) → verdict ≡ Accepted tally → IsKept octets)) c.audit_as.result c.surely.result c.surely.ensures.sure
    (λ sure. kept_known known c.audit_as.result (kept_of known (left_of g.R.Read.remaining c.in-Ok.text) _ c.in-Ok.ensures.left (c.audit_as.ensures.answers sure)))

pub returns-in-Err-clause-kept : goal.returns-in-Err-clause-kept
returns-in-Err-clause-kept g c = roomless_kept (g.R.Read.remaining c.args.reader)

pub returns-in-Ok-clause-refused : goal.returns-in-Ok-clause-refused
returns-in-Ok-clause-refused g c = λ none.
    kept_of (g.R.Read.remaining c.args.reader) (left_of g.R.Read.remaining c.in-Ok.text) _ c.in-Ok.ensures.left (c.audit_as.ensures.refused (c.surely.ensures.none none))
