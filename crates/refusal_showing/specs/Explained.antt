-- What is written of a capture that was audited.
use Rattle.std.specs.Prelude.{ℕ, List, [], ◌∷◌, ◌++◌, Option, Some, None}
use Rattle.std.specs.Io.KnownBytes.{Appends}
use Rattle.audit_core.specs.declared.verdict.Verdict.{Verdict}
use Rattle.audit_core.specs.declared.verdict.Verdict.TheVariants as verdicts
use Rattle.audit_core.specs.Report.{line_of}
use Rattle.refusal_words.specs.declared.compared.Compared.{Compared}
use Rattle.refusal_words.specs.Compared.{numbers_of}
use Rattle.refusal_showing.specs.declared.capture.Explanation.{Explanation}

-- what is known to stand there gained the line of the verdict, and an explanation behind it (own format)
abbrev pub Tells : Option (List ℕ) → Option (List ℕ) → Verdict → Type 0
Tells before after verdict = (explanation : List ℕ) × Appends before after (line_of verdict ++ 10 ∷ explanation)

-- the verdict that is explained
abbrev pub verdict_of : Explanation → Verdict
verdict_of explanation = explanation.verdict

-- the number of the record that is refused, if one is
abbrev pub refused_by : Verdict → Option ℕ
refused_by (verdicts.Accepted tally) = None
refused_by (verdicts.Refused number clause) = Some number
refused_by (verdicts.Malformed offset form_kind) = None
refused_by (verdicts.NoMemory offset) = None
refused_by (verdicts.Unreadable offset) = None

abbrev pub numbers_in : Option Compared → List ℕ
numbers_in None = []
numbers_in (Some compared) = numbers_of compared

-- the numbers of those that it is compared with
abbrev pub compared_of : Explanation → List ℕ
compared_of explanation = numbers_in explanation.compared
