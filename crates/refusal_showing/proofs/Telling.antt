-- The line of a verdict, and a text behind it.
use Rattle.std.proofs.Common.{◌≡◌, ℕ, List, [], ◌∷◌, ◌++◌, Option, subst, append_assoc}
use Rattle.std.specs.Io.KnownBytes.{Appends}
use Rattle.audit_core.specs.declared.verdict.Verdict.{Verdict}
use Rattle.audit_core.specs.Report.{line_of}
use Rattle.capture_words.proofs.Known.{appends_then}
use Rattle.refusal_showing.specs.Explained.{Tells}

pub tells_behind : (before between after : Option (List ℕ)) (verdict : Verdict) (text : List ℕ) → Appends before between (line_of verdict ++ 10 ∷ []) → Appends between after text
    → Tells before after verdict
tells_behind before between after verdict text line behind =
    (text, subst (Appends before after) (append_assoc (line_of verdict) (10 ∷ []) text) (appends_then before between after (line_of verdict ++ 10 ∷ []) text line behind))
