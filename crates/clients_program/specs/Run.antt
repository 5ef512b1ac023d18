-- How a run ends.
use Rattle.std.specs.Prelude.{◌≡◌, ℕ, ◌⊎◌}
use Rattle.clients_program.specs.declared.run.TheConstants.{UNFINISHED}
use Rattle.program_ends.specs.declared.telling.TheConstants.{WORDS_FAULT, NOT_WRITTEN}

-- the exit status of a run (own format)
abbrev pub IsStatus : ℕ → Type 0
IsStatus status = (status ≡ 0) ⊎ (status ≡ UNFINISHED) ⊎ (status ≡ WORDS_FAULT) ⊎ (status ≡ NOT_WRITTEN)
