-- What a run leaves.
use Rattle.std.proofs.Common.{◌≡◌, ◌≢◌, ◌<◌, ◌≤◌, ◌⊎◌, ℕ, List, [], ◌∷◌, Option, None, Some, Ok, Err, true, ap, arith, codes, inl, inr, refl}
use Rattle.clap.specs.Words.{kind_of}
use Rattle.clap.specs.declared.error.Error.{Error}
use Rattle.clap.specs.declared.error.kind.ErrorKind.TheVariants.{OutOfMemory}
use Rattle.program_ends.specs.InputSource.{path_of}
use Rattle.program_ends.specs.Telling.{TellsNoMemory, is_mistake}
use Rattle.program_ends.proofs.Statuses.{low_is_memory, or_not_written}
use Rattle.audit_core.specs.declared.verdict.Verdict.{Verdict}
use Rattle.audit_core.specs.declared.verdict.Verdict.TheVariants.{NoMemory}
use Rattle.audit_program.specs.declared.words.Words.{Words}
use Rattle.audit_program.specs.Run.{IsRunOn, IsVerdictOnInput, Tells, TellsInput, TellsSome}
use Rattle.audit_program.specs.Words.{AnswersWords, AsksToFollow}

-- want of memory at 0 says nothing of the input
on_nothing : (held : Option (List ℕ)) → IsVerdictOnInput held (NoMemory 0)
on_nothing None = tt
on_nothing (Some octets) = inl refl

-- the parser took the words, and the verdict on the source that they ask for is told
pub taken_run : (words : List (List ℕ)) (asked : Words) (verdict : Verdict) (held before after : Option (List ℕ)) (status : ℕ)
    → AnswersWords words (Ok asked)
    → (path_of asked.source ≡ None → IsVerdictOnInput held verdict)
    → (status ≢ 74 → Tells before after status verdict)
    → IsRunOn words held before after status
taken_run [] asked verdict held before after status answer on told = λ written. (verdict, told written, on answer.0)
taken_run (word ∷ []) asked verdict held before after status answer on told = λ plain written. (verdict, told written)
taken_run (first ∷ second ∷ more) asked verdict held before after status answer on told = λ plain plain'. absurd (answer plain plain')

-- the same of the word that asks to follow
pub taken_following : (words : List (List ℕ)) (asked : Words) (verdict : Verdict) (held before after : Option (List ℕ)) (status : ℕ)
    → AsksToFollow words (Ok asked)
    → (path_of asked.source ≡ None → IsVerdictOnInput held verdict)
    → (status ≢ 74 → Tells before after status verdict)
    → words ≡ codes "--follow" ∷ [] → status ≢ 74 → TellsInput held before after status
taken_following words asked verdict held before after status answer on told are written = (verdict, told written, on (answer.0 are).0)

-- refused memory is told as its verdict, and an unknown argument by its status
pub refused_run : (words : List (List ℕ)) (error : Error) (held before after : Option (List ℕ)) (status : ℕ)
    → AnswersWords words (Err error)
    → (kind_of error ≡ OutOfMemory → status ≢ 74 → TellsNoMemory before after status)
    → (is_mistake (kind_of error) ≡ true → status ≡ 64)
    → IsRunOn words held before after status
refused_run [] error held before after status answer told wrong =
    λ written. (NoMemory 0, told answer written, on_nothing held)
refused_run (word ∷ []) error held before after status answer told wrong =
    λ plain written. (NoMemory 0, told (answer plain) written)
refused_run (first ∷ second ∷ more) error held before after status answer told wrong =
    λ plain plain'. elim (answer plain plain') [
      | inl refused ↦ inr (or_not_written status 3 (λ written. (told refused written).same_status))
      | inr mistaken ↦ inl (wrong (ap is_mistake mistaken))
    ]

-- the same of the word that asks to follow
pub refused_following : (words : List (List ℕ)) (error : Error) (held before after : Option (List ℕ)) (status : ℕ)
    → AsksToFollow words (Err error)
    → (kind_of error ≡ OutOfMemory → status ≢ 74 → TellsNoMemory before after status)
    → words ≡ codes "--follow" ∷ [] → status ≢ 74 → TellsInput held before after status
refused_following words error held before after status answer told are written = (NoMemory 0, told (answer.0 are) written, on_nothing held)

-- statuses 1 to 4 come only with the line of refused memory
pub refused_told : (before after : Option (List ℕ)) (status : ℕ) → (status ≡ 0) ⊎ ((status ≡ 3) ⊎ ((status ≡ 64) ⊎ (status ≡ 74)))
    → (status ≡ 3 → TellsNoMemory before after status) → 0 < status → status ≤ 4 → TellsSome before after status
refused_told before after status is told some low = (NoMemory 0, told (low_is_memory status is some (omega arith)))
