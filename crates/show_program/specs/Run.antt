-- What a run leaves.
use Rattle.std.specs.Prelude.{◌≡◌, ◌≢◌, ◌⊎◌, ◌≤◌, ℕ, Bool, true, false, if◌then◌else◌, List, [], ◌∷◌, ◌++◌, Option, IfSome, codes}
use Rattle.std.specs.Io.KnownBytes.{Appends}
use Rattle.capture_words.specs.declared.ending.Ending.{Ending}
use Rattle.capture_words.specs.declared.ending.Ending.TheVariants.{Whole, Malformed, NoMemory, Unreadable}
use Rattle.capture_words.specs.Ending.{line_of, status_of}
use Rattle.capture_words.specs.Shown.{EndsText}
use Rattle.audit_core.specs.declared.verdict.Verdict.{Verdict}
use Rattle.audit_core.specs.Report.{status_of as status_of_verdict}
use Rattle.audit_core.specs.Verdict.{AnswersRead}
use Rattle.refusal_showing.specs.Explained.{Tells as Explains}
use Rattle.program_ends.specs.Words.{is_option}

-- whether a capture was whole
abbrev pub is_whole : Ending → Bool
is_whole Whole = true
is_whole (Malformed offset) = false
is_whole NoMemory = false
is_whole (Unreadable offset) = false

-- what is written behind what was shown: the line of a fault
abbrev pub tail_of : Ending → List ℕ
tail_of ending = if is_whole ending then [] else line_of ending ++ 10 ∷ []

-- what standard output is known to hold gained the line of a fault
abbrev pub TellsEnd : Option (List ℕ) → Option (List ℕ) → Ending → Type 0
TellsEnd before after ending = Appends before after (tail_of ending)

-- what standard output is known to hold gained what was shown, and behind that the line of a fault; the status is that
-- of the ending (own format)
pub record Tells (before after : Option (List ℕ)) (status : ℕ) (ending : Ending) : Type 0 where
  pub shown : List ℕ
  pub text : Appends before after (shown ++ tail_of ending)
  pub same_status : status ≡ status_of ending

-- the same of some ending
abbrev pub TellsSome : Option (List ℕ) → Option (List ℕ) → ℕ → Type 0
TellsSome before after status = (ending : Ending) × Tells before after status ending

-- the same, and nothing was shown
abbrev pub TellsAlone : Option (List ℕ) → Option (List ℕ) → ℕ → Type 0
TellsAlone before after status = (ending : Ending) × TellsEnd before after ending × (status ≡ status_of ending)

-- the line that tells that packets could not be written (own format)
abbrev pub no_packets : List ℕ
no_packets = codes "packets not written" ++ 10 ∷ []

-- that a chart could not be written, and that more records are asked for than it may have (own format)
abbrev pub no_chart : List ℕ
no_chart = codes "chart not written" ++ 10 ∷ []

abbrev pub too_many : List ℕ
too_many = codes "more than 2000 records for a chart: --from, --to, --connection, --link, --delivery choose" ++ 10 ∷ []

-- that no link of a consumer opens of those that are asked for (own format)
abbrev pub no_link : List ℕ
no_link = codes "no such link of a consumer" ++ 10 ∷ []

-- a line tells that the file could not be written that was asked for
abbrev pub TellsNoFile : Option (List ℕ) → Option (List ℕ) → Type 0
TellsNoFile before after = Appends before after no_packets ⊎ Appends before after no_chart

-- the statuses of the endings, of a file that can't be written, of too many records for a chart and of no link, of a fault of the
-- words and of an output that can't be written (own format)
abbrev pub IsStatus : ℕ → Type 0
IsStatus status = (status ≤ 7) ⊎ (status ≡ 64) ⊎ (status ≡ 74)

-- an ending is told, which is that of all the octets that the reader is known to give
pub record ShowsInput (held before after : Option (List ℕ)) (status : ℕ) : Type 0 where
  pub ending : Ending
  pub told : Tells before after status ending
  pub ends : IfSome held (λ octets. EndsText octets ending)

-- the line of a verdict is told, and behind it why; the status is that of the verdict (own format)
abbrev pub ExplainsSome : Option (List ℕ) → Option (List ℕ) → ℕ → Type 0
ExplainsSome before after status = (verdict : Verdict) × Explains before after verdict × (status ≡ status_of_verdict verdict)

-- the same, and the verdict is that of the auditor on all the octets that the reader is known to give
pub record ExplainsInput (held before after : Option (List ℕ)) (status : ℕ) : Type 0 where
  pub verdict : Verdict
  pub told : Explains before after verdict
  pub same_status : status ≡ status_of_verdict verdict
  pub answers : IfSome held (λ octets. AnswersRead octets verdict)

-- without words standard input is shown; with one word that is no option an ending is told; two are a mistake, unless
-- memory for the parser was refused; all this where standard output could be written (own format)
abbrev pub IsRunOn : List (List ℕ) → Option (List ℕ) → Option (List ℕ) → Option (List ℕ) → ℕ → Type 0
IsRunOn [] held before after status = status ≢ 74 → ShowsInput held before after status
IsRunOn (word ∷ []) held before after status = is_option word ≡ false → status ≢ 74 → TellsSome before after status
IsRunOn (first ∷ second ∷ more) held before after status =
    is_option first ≡ false → is_option second ≡ false → (status ≡ 64) ⊎ (status ≡ 3) ⊎ (status ≡ 74)
