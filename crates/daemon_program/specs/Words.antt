-- What the words of the command line ask for.
use Rattle.std.specs.Prelude.{◌≡◌, ℕ, Bool, false, true, List, [], ◌∷◌, ◌++◌, Some, None, Result, MatchResult, codes, pos, if◌then◌else◌}
use Rattle.clap.specs.Words.{App, Rule, kind_of, new_app, new_rule, with_rule}
use Rattle.clap.specs.declared.builder.ArgAction.TheVariants.{Append}
use Rattle.clap.specs.declared.builder.value_parser.ValueParser.TheVariants.{Signed, String, Unsigned}
use Rattle.clap.specs.declared.error.Error.{Error}
use Rattle.clap.specs.declared.error.kind.ErrorKind.TheVariants.{OutOfMemory}
use Rattle.program_ends.specs.Arguments.{IsMistake, asking_argument, flag_argument}
use Rattle.program_ends.specs.Words.{is_option}
use Rattle.daemon_program.specs.declared.words.Words.{Words}

-- what is asked for where no word says anything (own format)
pub record IsUsual (words : Words) : Type 0 where
  pub listen : words.listen.now ≡ codes "127.0.0.1:5672"
  pub capture : words.capture.now ≡ codes "amqp.cap"
  pub rules : words.rules.items ≡ []
  pub most : words.most ≡ 10000
  pub until : words.until ≡ None
  pub buffer : words.buffer ≡ 67108864
  pub sync : words.sync ≡ false
  pub stats : words.stats ≡ None

-- the words of rules, and the one that serves anonymous senders behind them (own format)
abbrev pub rules_asked : List (List ℕ) → Bool → List (List ℕ)
rules_asked spelled true = spelled ++ codes "anonymous" ∷ []
rules_asked spelled false = spelled

-- without words the usual is asked for; a word in front that is no option is a mistake; want of memory aside (own format)
abbrev pub AnswersWords : List (List ℕ) → Result Words Error → Type 0
AnswersWords [] result = MatchResult result IsUsual (λ error. kind_of error ≡ OutOfMemory)
AnswersWords (word ∷ more) result = is_option word ≡ false → IsMistake result

-- an option with a value that may be said more than once
abbrev pub rule_argument : Rule
rule_argument = record (new_rule (codes "rule")) { long = Some (codes "rule"); action = Some Append; value_names = 1 }

-- the name alone, and no word for the program's name
abbrev pub bare_command : App
bare_command =
    let named = new_app (codes "amqp_routerd") in
    record named { top = record named.top { no_binary_name = true } }

-- where it listens, where it writes and by which rules
abbrev pub placing_command : App
placing_command =
    with_rule (with_rule (with_rule bare_command (asking_argument (codes "listen") String)) (asking_argument (codes "capture") String)) rule_argument

-- how many connections are open at a time, at most a million
abbrev pub most_argument : Rule
most_argument = asking_argument (codes "max-connections") (Signed (pos 1) (pos 1000000))

abbrev pub until_argument : Rule
until_argument = asking_argument (codes "until-connections") (Unsigned 0 18446744073709551615)

-- how many octets may wait for all clients
abbrev pub buffer_argument : Rule
buffer_argument = asking_argument (codes "buffer") (Unsigned 0 18446744073709551615)

-- how many seconds lie between two lines, at most a day
abbrev pub stats_argument : Rule
stats_argument = asking_argument (codes "stats") (Signed (pos 1) (pos 86400))

-- the command line, as the parser reads it (own format)
abbrev pub command_line : App
command_line =
    let served = with_rule (with_rule placing_command (flag_argument (codes "anonymous"))) most_argument in
    let bounded = with_rule (with_rule served until_argument) buffer_argument in
    with_rule (with_rule bounded (flag_argument (codes "sync"))) stats_argument
