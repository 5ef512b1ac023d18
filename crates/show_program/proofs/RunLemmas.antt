-- What a run leaves.
use Rattle.std.proofs.Common.{◌≡◌, ◌∙◌, ◌≢◌, ◌<◌, ◌≤◌, ◌⊎◌, ◌++◌, ◌∷◌, ℕ, refl, true, false, List, [], Option, None, Some, Ok, Err, ap, arith, inl, inr, subst, sym}
use Rattle.std.specs.Prelude.{IfSome, if◌then◌else◌}
use Rattle.std.specs.Io.KnownBytes.{Appends}
use Rattle.clap.specs.Words.{kind_of}
use Rattle.clap.specs.declared.error.Error.{Error}
use Rattle.clap.specs.declared.error.kind.ErrorKind.TheVariants.{OutOfMemory}
use Rattle.program_ends.specs.Telling.{TellsNoMemory, is_mistake}
use Rattle.program_ends.proofs.Statuses.{low_is_memory, or_not_written, status_so}
use Rattle.capture_words.specs.declared.ending.Ending.{Ending}
use Rattle.capture_words.specs.declared.ending.Ending.TheVariants.{NoMemory}
use Rattle.capture_words.specs.Ending.{line_of, status_of}
use Rattle.capture_words.specs.Shown.{AppendsSome, EndsText}
use Rattle.capture_words.proofs.Known.{appends_nothing, appends_then}
use Rattle.show_program.specs.declared.words.Words.{Words}
use Rattle.show_program.specs.Run.{ExplainsInput, IsRunOn, ShowsInput, Tells, TellsEnd, TellsSome, is_whole, tail_of}
use Rattle.program_ends.specs.InputSource.{path_of}
use Rattle.show_program.specs.declared.words.Mode.{Mode}
use Rattle.show_program.specs.Words.{AnswersWords, AsksWhy, IsAudit, IsPlain, chart_of, credit_of, is_why, packets_of}
use Rattle.audit_core.specs.declared.verdict.Verdict.{Verdict}
use Rattle.audit_core.specs.declared.verdict.Verdict.TheVariants as verdicts
use Rattle.audit_core.specs.Report.{status_of as status_of_verdict}
use Rattle.audit_core.specs.Verdict.{AnswersRead}
use Rattle.refusal_showing.specs.Explained.{Tells as Explains}

-- of a whole capture no line is told
pub nothing_told : (known : Option (List ℕ)) (ending : Ending) → is_whole ending ≡ true → TellsEnd known known ending
nothing_told known ending whole =
    let none : tail_of ending ≡ [] = ap (λ b. if b then [] else line_of ending ++ 10 ∷ []) whole in
    subst (Appends known known) (sym none) (appends_nothing known)

-- the line of a fault alone
pub tells_alone : (before after : Option (List ℕ)) (status : ℕ) (ending : Ending) → (status ≢ 74 → TellsEnd before after ending)
    → (status ≡ status_of ending) ⊎ (status ≡ 74) → status ≢ 74 → Tells before after status ending
tells_alone before after status ending told is written = record {
  shown = [];
  text = told written;
  same_status = status_so status (status_of ending) is written;
}

-- the line of a fault behind what was shown
pub tells_behind : (before between after : Option (List ℕ)) (status : ℕ) (ending : Ending) → AppendsSome before between
    → (status ≢ 74 → TellsEnd between after ending) → (status ≡ status_of ending) ⊎ (status ≡ 74) → status ≢ 74 → Tells before after status ending
tells_behind before between after status ending shown told is written = record {
  shown = shown.0;
  text = appends_then before between after shown.0 (tail_of ending) shown.1 (told written);
  same_status = status_so status (status_of ending) is written;
}

-- want of memory says nothing of the input
on_nothing : (held : Option (List ℕ)) → IfSome held (λ octets. EndsText octets NoMemory)
on_nothing None = tt
on_nothing (Some octets) = tt

-- the line of refused memory is that of its ending, behind nothing
memory_told : (before after : Option (List ℕ)) (status : ℕ) → TellsNoMemory before after status → Tells before after status NoMemory
memory_told before after status told = record { shown = []; text = told.text; same_status = told.same_status }

-- refused memory is told as its ending, and an unknown argument by its status
pub refused_run : (words : List (List ℕ)) (error : Error) (held before after : Option (List ℕ)) (status : ℕ)
    → AnswersWords words (Err error)
    → (kind_of error ≡ OutOfMemory → status ≢ 74 → TellsNoMemory before after status)
    → (is_mistake (kind_of error) ≡ true → status ≡ 64)
    → IsRunOn words held before after status
refused_run [] error held before after status answer told wrong =
    λ written. record { ending = NoMemory; told = memory_told before after status (told answer written); ends = on_nothing held }
refused_run (word ∷ []) error held before after status answer told wrong =
    λ plain written. (NoMemory, memory_told before after status (told (answer plain) written))
refused_run (first ∷ second ∷ more) error held before after status answer told wrong =
    λ plain plain'. elim (answer plain plain') [
      | inl refused ↦ inr (or_not_written status 3 (λ written. (told refused written).same_status))
      | inr mistaken ↦ inl (wrong (ap is_mistake mistaken))
    ]

-- statuses 1 to 4 come only with the line of refused memory
pub refused_told : (before after : Option (List ℕ)) (status : ℕ) → (status ≡ 0) ⊎ ((status ≡ 3) ⊎ ((status ≡ 64) ⊎ (status ≡ 74)))
    → (status ≡ 3 → TellsNoMemory before after status) → 0 < status → status ≤ 4 → TellsSome before after status
refused_told before after status is told some low =
    (NoMemory, memory_told before after status (told (low_is_memory status is some (omega arith))))

-- the parser took the words, and the source that they ask for was shown
pub shown_run : (words : List (List ℕ)) (asked : Words) (mode : Mode) (held before after : Option (List ℕ)) (status : ℕ)
    → AnswersWords words (Ok asked) → asked.mode ≡ Some mode
    → (path_of asked.source ≡ None → is_why mode ≡ false → credit_of mode ≡ None → status ≢ 74 → status ≢ 5 → status ≢ 6 → ShowsInput held before after status)
    → (is_why mode ≡ false → credit_of mode ≡ None → status ≢ 74 → status ≢ 5 → status ≢ 6 → TellsSome before after status)
    → (packets_of mode ≡ None → chart_of mode ≡ None → credit_of mode ≡ None → status ≢ 5)
    → (chart_of mode ≡ None → status ≢ 6)
    → IsRunOn words held before after status
shown_run [] asked mode held before after status answer is input told unasked few =
    let plain : IsPlain (Some mode) = subst IsPlain is answer.1 in
    λ written. input answer.0 plain.3 plain.2 written (unasked plain.0 plain.1 plain.2) (few plain.1)
shown_run (word ∷ []) asked mode held before after status answer is input told unasked few = λ plain written.
    let one : IsPlain (Some mode) = subst IsPlain is (answer plain).1 in
    told one.3 one.2 written (unasked one.0 one.1 one.2) (few one.1)
shown_run (first ∷ second ∷ more) asked mode held before after status answer is input told unasked few = λ plain plain'. absurd (answer plain plain')

-- the parser took words that ask for several modes: they are no plain ones
pub several_run : (words : List (List ℕ)) (asked : Words) (held before after : Option (List ℕ)) (status : ℕ)
    → AnswersWords words (Ok asked) → asked.mode ≡ None → IsRunOn words held before after status
several_run [] asked held before after status answer none = λ written. absurd (subst IsPlain none answer.1)
several_run (word ∷ []) asked held before after status answer none = λ plain written. absurd (subst IsPlain none (answer plain).1)
several_run (first ∷ second ∷ more) asked held before after status answer none = λ plain plain'. absurd (answer plain plain')

-- ---- an audit that is asked for

-- of any octets memory may be refused from the start on
unaudited : (held : Option (List ℕ)) → IfSome held (λ octets. AnswersRead octets (verdicts.NoMemory 0))
unaudited None = tt
unaudited (Some octets) = inl refl

-- refused memory is told as the verdict's line is
pub refused_why : (error : Error) (held before after : Option (List ℕ)) (status : ℕ) → AsksWhy (Err error)
    → (kind_of error ≡ OutOfMemory → status ≢ 74 → TellsNoMemory before after status) → status ≢ 74 → ExplainsInput held before after status
refused_why error held before after status answer told written =
    let line = told answer written in
    record { verdict = verdicts.NoMemory 0; told = ([], line.text); same_status = line.same_status; answers = unaudited held }

-- the source that is asked for was audited
pub shown_why : (asked : Words) (mode : Mode) (held before after : Option (List ℕ)) (status : ℕ) → AsksWhy (Ok asked) → asked.mode ≡ Some mode
    → (path_of asked.source ≡ None → is_why mode ≡ true → chart_of mode ≡ None → status ≢ 74 → ExplainsInput held before after status) → status ≢ 74
    → ExplainsInput held before after status
shown_why asked mode held before after status answer is explained =
    let audit : IsAudit (Some mode) = subst IsAudit is answer.1 in
    explained answer.0 audit.0 audit.1

-- it asks for one mode
pub why_is_one : (asked : Words) (held before after : Option (List ℕ)) (status : ℕ) → AsksWhy (Ok asked) → asked.mode ≡ None → status ≢ 74 → ExplainsInput held before after status
why_is_one asked held before after status answer none = λ written. absurd (subst IsAudit none answer.1)

-- ---- the line of a verdict

verdict_low : (verdict : Verdict) → status_of_verdict verdict ≤ 4
verdict_low (verdicts.Accepted tally) = omega arith
verdict_low (verdicts.Refused number clause) = omega arith
verdict_low (verdicts.Malformed offset form_kind) = omega arith
verdict_low (verdicts.NoMemory offset) = omega arith
verdict_low (verdicts.Unreadable offset) = omega arith

-- its status is one of the first five
pub low_or : (verdict : Verdict) (status own : ℕ) → own ≡ status_of_verdict verdict → (status ≡ own) ⊎ (status ≡ 74) → (status ≤ 4) ⊎ (status ≡ 74)
low_or verdict status own is (inl same) = inl (subst (λ n. n ≤ 4) (sym (same ∙ is)) (verdict_low verdict))
low_or verdict status own is (inr not) = inr not

-- ---- an audit of octets that are kept

-- memory that was refused says nothing of the input
pub explained_memory : (held before after : Option (List ℕ)) (status : ℕ) → (status ≢ 74 → Explains before after (verdicts.NoMemory 0) × (status ≡ 3)) → status ≢ 74 → ExplainsInput held before after status
explained_memory held before after status told written =
    let line = told written in
    record { verdict = verdicts.NoMemory 0; told = line.0; same_status = line.1; answers = unaudited held }
