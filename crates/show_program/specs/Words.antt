-- What the words of the command line ask for.
use Rattle.std.specs.Prelude.{◌≡◌, ℕ, Bool, false, true, ◌&&◌, ◌||◌, List, [], ◌∷◌, Option, Some, None, Result, MatchResult, codes, pos}
use Rattle.clap.specs.Words.{App, Rule, kind_of, new_app, with_rule}
use Rattle.clap.specs.declared.builder.value_parser.ValueParser.TheVariants.{Signed, String, Unsigned}
use Rattle.clap.specs.declared.error.Error.{Error}
use Rattle.clap.specs.declared.error.kind.ErrorKind.TheVariants.{OutOfMemory}
use Rattle.program_ends.specs.Arguments.{IsMistake, asking_argument, file_argument, flag_argument}
use Rattle.program_ends.specs.Words.{is_option}
use Rattle.program_ends.specs.InputSource.{path_of}
use Rattle.show_program.specs.declared.words.Mode.{Mode}
use Rattle.show_program.specs.declared.words.Mode.TheVariants.{Lines, Summary, Why, Packets, Chart, Marked, Credit}
use Rattle.show_program.specs.declared.words.Words.{Words}

-- the file that packets are asked for in (own format)
abbrev pub packets_of : Mode → Option (List ℕ)
packets_of Lines = None
packets_of Summary = None
packets_of Why = None
packets_of (Packets path) = Some path.now
packets_of (Chart path) = None
packets_of (Marked path) = None
packets_of (Credit path) = None

-- the file that a chart is asked for in (own format)
abbrev pub chart_of : Mode → Option (List ℕ)
chart_of Lines = None
chart_of Summary = None
chart_of Why = None
chart_of (Packets path) = None
chart_of (Chart path) = Some path.now
chart_of (Marked path) = Some path.now
chart_of (Credit path) = None

-- the file that the curves of a link's credit are asked for in (own format)
abbrev pub credit_of : Mode → Option (List ℕ)
credit_of Lines = None
credit_of Summary = None
credit_of Why = None
credit_of (Packets path) = None
credit_of (Chart path) = None
credit_of (Marked path) = None
credit_of (Credit path) = Some path.now

-- whether it is asked why the capture is not accepted, beside a chart or not (own format)
abbrev pub is_why : Mode → Bool
is_why Lines = false
is_why Summary = false
is_why Why = true
is_why (Packets path) = false
is_why (Chart path) = false
is_why (Marked path) = true
is_why (Credit path) = false

-- whether one table is shown (own format)
abbrev pub is_table : Mode → Bool
is_table Lines = false
is_table Summary = true
is_table Why = false
is_table (Packets path) = false
is_table (Chart path) = false
is_table (Marked path) = false
is_table (Credit path) = false

-- one mode is asked for, and neither packets nor a chart nor a credit nor an audit (own format)
abbrev pub IsPlain : Option Mode → Type 0
IsPlain None = ⊥
IsPlain (Some mode) = (packets_of mode ≡ None) × (chart_of mode ≡ None) × (credit_of mode ≡ None) × (is_why mode ≡ false)

-- an audit is asked for, and no other mode (own format)
abbrev pub IsAudit : Option Mode → Type 0
IsAudit None = ⊥
IsAudit (Some mode) = (is_why mode ≡ true) × (chart_of mode ≡ None)

-- of packets, a chart, a credit, an audit and a summary more than one is asked for, but for a chart and an audit (own format)
abbrev pub are_several : Bool → Bool → Bool → Bool → Bool → Bool
are_several packets chart credit audited summary =
    (packets && (chart || (credit || (audited || summary)))) || ((chart && (credit || summary)) || ((credit && (audited || summary)) || (audited && summary)))

-- there is a mode just where not more than one is asked for (own format)
abbrev pub IsOne : Bool → Option Mode → Type 0
IsOne several None = several ≡ true
IsOne several (Some mode) = several ≡ false

-- the words ask for this source, and neither for packets nor for a chart, a credit nor an audit, want of memory aside (own format)
abbrev pub AsksFor : Option (List ℕ) → Result Words Error → Type 0
AsksFor path result = MatchResult result
    (λ words. (path_of words.source ≡ path) × IsPlain words.mode)
    (λ error. kind_of error ≡ OutOfMemory)

-- the words ask for an audit of standard input, want of memory aside (own format)
abbrev pub AsksWhy : Result Words Error → Type 0
AsksWhy result = MatchResult result
    (λ words. (path_of words.source ≡ None) × IsAudit words.mode)
    (λ error. kind_of error ≡ OutOfMemory)

-- no word asks for standard input and one word that is no option for the file that it names, and neither for packets nor for
-- a chart, a credit or an audit; two such are a mistake
abbrev pub AnswersWords : List (List ℕ) → Result Words Error → Type 0
AnswersWords [] result = AsksFor None result
AnswersWords (word ∷ []) result = is_option word ≡ false → AsksFor (Some word) result
AnswersWords (first ∷ second ∷ more) result =
    is_option first ≡ false → is_option second ≡ false → IsMistake result

-- the name alone, and no word for the program's name
abbrev pub bare_command : App
bare_command =
    let named = new_app (codes "amqp_show") in
    record named { top = record named.top { no_binary_name = true } }

-- the numbers that are asked for have 64 bits, a connection 32
abbrev pub number_argument : List ℕ → Rule
number_argument name = asking_argument name (Unsigned 0 18446744073709551615)

abbrev pub connection_argument : Rule
connection_argument = asking_argument (codes "connection") (Signed (pos 0) (pos 4294967295))

abbrev pub link_argument : Rule
link_argument = asking_argument (codes "link") String

-- which records are asked for
abbrev pub choosing_command : App
choosing_command =
    let numbered = with_rule (with_rule (with_rule bare_command file_argument) (number_argument (codes "from"))) (number_argument (codes "to")) in
    with_rule (with_rule (with_rule numbered connection_argument) link_argument) (number_argument (codes "delivery"))

abbrev pub packets_argument : Rule
packets_argument = asking_argument (codes "pcapng") String

abbrev pub chart_argument : Rule
chart_argument = asking_argument (codes "chart") String

abbrev pub credit_argument : Rule
credit_argument = asking_argument (codes "credit") String

-- the command line, as the parser reads it (own format)
abbrev pub command_line : App
command_line =
    let shown = with_rule (with_rule choosing_command (flag_argument (codes "wide"))) (flag_argument (codes "summary")) in
    with_rule (with_rule (with_rule (with_rule shown (flag_argument (codes "why"))) packets_argument) chart_argument) credit_argument
