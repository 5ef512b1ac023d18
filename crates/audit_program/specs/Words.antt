-- What the words of the command line ask for.
use Rattle.std.specs.Prelude.{◌≡◌, ℕ, Bool, false, true, List, [], ◌∷◌, Option, Some, None, Result, MatchResult, codes}
use Rattle.clap.specs.Words.{App, Rule, kind_of, new_app, with_rule}
use Rattle.clap.specs.declared.builder.value_parser.ValueParser.TheVariants.{Unsigned}
use Rattle.clap.specs.declared.error.Error.{Error}
use Rattle.clap.specs.declared.error.kind.ErrorKind.TheVariants.{OutOfMemory}
use Rattle.program_ends.specs.Arguments.{IsMistake, asking_argument, file_argument, flag_argument}
use Rattle.program_ends.specs.Words.{is_option}
use Rattle.program_ends.specs.InputSource.{path_of}
use Rattle.audit_program.specs.declared.words.End.{End}
use Rattle.audit_program.specs.declared.words.End.TheVariants.{First, Idle, Never}
use Rattle.audit_program.specs.declared.words.Words.{Words}

-- where a capture ends, by whether it is to be followed, and for how many seconds (own format)
abbrev pub end_asked : Bool → Option ℕ → End
end_asked followed (Some seconds) = Idle seconds
end_asked true None = Never
end_asked false None = First

-- the words ask for this source, and for this end of it, want of memory aside (own format)
abbrev pub AsksFor : Option (List ℕ) → End → Result Words Error → Type 0
AsksFor path end result = MatchResult result
    (λ words. (path_of words.source ≡ path) × (words.end ≡ end))
    (λ error. kind_of error ≡ OutOfMemory)

-- no word asks for standard input and one word that is no option for the file that it names, up to the end that is there; two are
-- a mistake (own format)
abbrev pub AnswersWords : List (List ℕ) → Result Words Error → Type 0
AnswersWords [] result = AsksFor None First result
AnswersWords (word ∷ []) result = is_option word ≡ false → AsksFor (Some word) First result
AnswersWords (first ∷ second ∷ more) result =
    is_option first ≡ false → is_option second ≡ false → IsMistake result

-- the word that asks to follow, alone or in front of a file: then more may always come (own format)
abbrev pub AsksToFollow : List (List ℕ) → Result Words Error → Type 0
AsksToFollow words result =
    (words ≡ codes "--follow" ∷ [] → AsksFor None Never result)
    × ((file : List ℕ) → is_option file ≡ false → words ≡ codes "--follow" ∷ file ∷ [] → AsksFor (Some file) Never result)

-- that of seconds, whose value is a number of 64 bits (own format)
abbrev pub idle_argument : Rule
idle_argument = asking_argument (codes "idle") (Unsigned 0 18446744073709551615)

-- the name alone, and no word for the program's name (own format)
abbrev pub bare_command : App
bare_command =
    let named = new_app (codes "amqp_audit") in
    record named { top = record named.top { no_binary_name = true } }

-- the command line, as the parser reads it: one optional file, and whether it is followed (own format)
abbrev pub command_line : App
command_line =
    with_rule (with_rule (with_rule bare_command file_argument) (flag_argument (codes "follow"))) idle_argument
