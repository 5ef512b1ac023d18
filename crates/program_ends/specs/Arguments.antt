-- The arguments that the programs have alike, and what the parser makes of a word that none of them takes.
use Rattle.std.specs.Prelude.{◌≡◌, ◌⊎◌, ℕ, List, Some, Result, MatchResult, codes}
use Rattle.clap.specs.Words.{Rule, kind_of, new_rule}
use Rattle.clap.specs.declared.builder.ArgAction.TheVariants.{Set, SetTrue}
use Rattle.clap.specs.declared.builder.value_parser.ValueParser.{ValueParser}
use Rattle.clap.specs.declared.error.Error.{Error}
use Rattle.clap.specs.declared.error.kind.ErrorKind.TheVariants.{OutOfMemory, UnknownArgument}

-- an option with a value, which this parser checks (own format)
abbrev pub asking_argument : List ℕ → ValueParser → Rule
asking_argument name parser = record (new_rule name) { long = Some name; action = Some Set; parser = Some parser; value_names = 1 }

-- an option without a value (own format)
abbrev pub flag_argument : List ℕ → Rule
flag_argument name = record (new_rule name) { long = Some name; action = Some SetTrue }

-- the one argument that is no option (own format)
abbrev pub file_argument : Rule
file_argument = record (new_rule (codes "FILE")) { action = Some Set }

-- the words are a mistake, or memory was refused (own format)
abbrev pub IsMistake : {A : Type 0} → Result A Error → Type 0
IsMistake result = MatchResult result (λ words. ⊥)
    (λ error. (kind_of error ≡ OutOfMemory) ⊎ (kind_of error ≡ UnknownArgument))
