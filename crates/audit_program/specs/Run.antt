use Rattle.std.specs.Prelude.{◌≡◌, ◌≢◌, ◌⊎◌, ◌≤◌, ℕ, false, List, [], ◌∷◌, Option, IfSome}
use Rattle.program_ends.specs.Telling.{TellsLine}
use Rattle.program_ends.specs.Words.{is_option}
use Rattle.audit_core.specs.Verdict.{AnswersRead}
use Rattle.audit_core.specs.declared.verdict.Verdict.{Verdict}
use Rattle.audit_core.specs.Report.{line_of, status_of}

-- the verdict's line is told, with its status (own format)
abbrev pub Tells : Option (List ℕ) → Option (List ℕ) → ℕ → Verdict → Type 0
Tells before after status verdict = TellsLine (line_of verdict) (status_of verdict) before after status

-- the same of some verdict
abbrev pub TellsSome : Option (List ℕ) → Option (List ℕ) → ℕ → Type 0
TellsSome before after status = (verdict : Verdict) × Tells before after status verdict

-- the statuses of the verdicts, of a fault of the words and of an output that can't be written (own format)
abbrev pub IsStatus : ℕ → Type 0
IsStatus status = (status ≤ 4) ⊎ (status ≡ 64) ⊎ (status ≡ 74)

-- the verdict is on all the octets that the reader is known to give; `NoMemory 0` is told too where memory for the
-- word parser was refused (own rule)
abbrev pub IsVerdictOnInput : Option (List ℕ) → Verdict → Type 0
IsVerdictOnInput held verdict = IfSome held (λ octets. AnswersRead octets verdict)

-- the verdict on standard input is told (own format)
abbrev pub TellsInput : Option (List ℕ) → Option (List ℕ) → Option (List ℕ) → ℕ → Type 0
TellsInput held before after status = (verdict : Verdict) × Tells before after status verdict × IsVerdictOnInput held verdict

-- without words the verdict on standard input is told; with one word the line of a verdict; two words are a
-- mistake, unless memory for the parser was refused; all this where standard output could be written (own format)
abbrev pub IsRunOn : List (List ℕ) → Option (List ℕ) → Option (List ℕ) → Option (List ℕ) → ℕ → Type 0
IsRunOn [] held before after status = status ≢ 74 → TellsInput held before after status
IsRunOn (word ∷ []) held before after status = is_option word ≡ false → status ≢ 74 → TellsSome before after status
IsRunOn (first ∷ second ∷ more) held before after status =
    is_option first ≡ false → is_option second ≡ false → (status ≡ 64) ⊎ (status ≡ 3) ⊎ (status ≡ 74)
