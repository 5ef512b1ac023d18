-- What the exit status of a program says.
use Rattle.std.proofs.Common.{◌≡◌, ◌≢◌, ◌<◌, ◌⊎◌, inl, inr, ℕ, arith}
use Rattle.std.proofs.lemmas.Bool.{cases_eq}

-- a status that is the line's, or that of an output that can not be written
pub status_so : (status line : ℕ) → (status ≡ line) ⊎ (status ≡ 74) → status ≢ 74 → status ≡ line
status_so status line (inl is) written = is
status_so status line (inr not) written = absurd (written not)

-- a status that is the line's where standard output could be written
pub or_not_written : (status line : ℕ) → (status ≢ 74 → status ≡ line) → (status ≡ line) ⊎ (status ≡ 74)
or_not_written status line written = elim (cases_eq status 74) [ inl not ↦ inr not | inr is ↦ inl (written is) ]

-- where the parser refused the words, a low status is that of refused memory
pub low_is_memory : (status : ℕ) → (status ≡ 0) ⊎ ((status ≡ 3) ⊎ ((status ≡ 64) ⊎ (status ≡ 74))) → 0 < status → status < 64 → status ≡ 3
low_is_memory status (inl well) some low = absurd (omega arith)
low_is_memory status (inr (inl memory)) some low = memory
low_is_memory status (inr (inr (inl mistake))) some low = absurd (omega arith)
low_is_memory status (inr (inr (inr not))) some low = absurd (omega arith)
