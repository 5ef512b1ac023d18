use Rattle.capture_form.specs.Reader.{left_of}
use Rattle.audit_core.proofs.Unread.{kept_of, roomless, roomless_kept, roomless_seen}
use Rattle.audit_core.proofs.streaming.audit_watched.Goals as goal

pub returns-in-Ok-clause-answers : goal.returns-in-Ok-clause-answers
returns-in-Ok-clause-answers g c =
    kept_of (g.R.Read.remaining c.args.reader) (left_of g.R.Read.remaining c.in-Ok.text) _ c.in-Ok.ensures.left c.audit_text.ensures.answers

pub returns-in-Ok-clause-kept : goal.returns-in-Ok-clause-kept
returns-in-Ok-clause-kept g c =
    kept_of (g.R.Read.remaining c.args.reader) (left_of g.R.Read.remaining c.in-Ok.text) _ c.in-Ok.ensures.left c.audit_text.ensures.kept

pub returns-in-Ok-clause-watched : goal.returns-in-Ok-clause-watched
returns-in-Ok-clause-watched g c = λ unseen.
    kept_of (g.R.Read.remaining c.args.reader) (left_of g.R.Read.remaining c.in-Ok.text) _ c.in-Ok.ensures.left (c.audit_text.ensures.watched unseen)

pub returns-in-Err-clause-answers : goal.returns-in-Err-clause-answers
returns-in-Err-clause-answers g c = roomless (g.R.Read.remaining c.args.reader)

pub returns-in-Err-clause-kept : goal.returns-in-Err-clause-kept
returns-in-Err-clause-kept g c = roomless_kept (g.R.Read.remaining c.args.reader)

pub returns-in-Err-clause-watched : goal.returns-in-Err-clause-watched
returns-in-Err-clause-watched g c = λ unseen. roomless_seen (g.W.Watcher.saw c.args.watcher.now) (g.W.Watcher.saw_refused c.args.watcher.now) (g.R.Read.remaining c.args.reader) c.args.watcher.now
